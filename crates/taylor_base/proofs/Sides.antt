-- `max` asks of each side its constant alone: of a list, however long it is, it is refused.
-- Assumes nothing.
use Rattle.std.proofs.Common.{◌≡◌, refl}
use Rattle.pool.specs.Pool.{Pool}
use Rattle.taylor.specs.Expansion.{Expansion, maximum}
use Rattle.taylor.specs.declared.expansion.Expansion.TheVariants.{Constant, Polynomial}
use Rattle.taylor_base.specs.Sides.{constant_of, side}

pub constants_decide : (e f : Expansion) (P : Pool) → maximum (side (constant_of e)) (side (constant_of f)) P ≡ maximum e f P
constants_decide (Constant a) (Constant b) P = refl
constants_decide (Constant a) (Polynomial ws) P = refl
constants_decide (Polynomial us) (Constant b) P = refl
constants_decide (Polynomial us) (Polynomial ws) P = refl
