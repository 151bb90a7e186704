-- `key_texts::answer::put_hex` meets its contract: one more digit is put behind those before it.
-- Assumes nothing.
use Rattle.low_bytes.proofs.Writing.{written_after, written_as}
use Rattle.key_texts.proofs.HexTexts.{last_digit}
use Rattle.key_texts.proofs.answer.+put_hex.Goals as goal

pub returns : goal.returns
returns t c =
    let args = c.args in
    written_as _ _ (last_digit args.digits args.n c.if-digits-eq0.false c.hex_digit.ensures)
    (written_after c.put_hex-last.ensures c.put.ensures)
