-- `key_texts::keys::push_literal` meets its contract: one text after the other.
-- Assumes nothing.
use mir.Syntax.{w64}
use mir.ValLaws.{to_z-of_z}
use Rattle.low_bytes.proofs.Writing.{three_written}
use Rattle.key_texts.proofs.keys.push_literal.Goals as goal

pub returns : goal.returns
returns c =
    let same = to_z-of_z w64 c.args.z c.ranges.z in
    three_written (rw c.front.ensures at c.write-a.ensures) (rw same at c.write_literal-b.ensures) c.write.ensures
