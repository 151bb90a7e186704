-- `taylor_products::subst::horner_in` meets its contract: each turn takes the last coefficient that is left.
-- Assumes nothing.
use Rattle.std.proofs.Common.{reverse}
use Rattle.taylor.specs.Expansion.{horner}
use Rattle.taylor.specs.declared.expansion.Expansion.TheVariants.{Constant}
use Rattle.taylor_products.proofs.Hornering.{Hornering}
use Rattle.taylor_products.proofs.subst.horner_in.Given as goal

abbrev pub invariant-loop-i : goal.invariant-loop-i
invariant-loop-i l = Hornering l.inner l.outer (horner l.inner (reverse l.outer) (Constant l.zero) l.fn.pool) l.i l.res l.pool
