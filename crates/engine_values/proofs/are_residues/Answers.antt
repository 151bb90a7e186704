-- `engine_values::are_residues` meets its contract: where the table is not too long, the test of all values decides.
-- Assumes nothing.
use Rattle.std.proofs.Common.{rules}
use Rattle.std.specs.Prelude.{◌↔◌, All}
use mathlib.Core.Path.{◌≡◌}
use mathlib.Core.Bool.{true}
use Prim.Native.Nat.{◌<◌}
use lib.ListN.{length}
use borrow.Author.Tests.{le-leb}
use Rattle.residue.specs.Residue.{fixed_modulus}
use Rattle.engine_values.specs.Values.{most_values}
use Rattle.engine_values.proofs.Evaluates.{all_told}
use Rattle.engine_values.proofs.are_residues.Goals as goal

pub returns-then-values-le-VALUES_MAX : goal.returns-then-values-le-VALUES_MAX
returns-then-values-le-VALUES_MAX c =
    let values = c.args.values.now in
    let told : (c.all.result ≡ true) ↔ All (λ x. x < fixed_modulus) values = search rules in
    rw (le-leb (length values) most_values c.if-values-le-VALUES_MAX.true) (all_told values c.all.result told)
