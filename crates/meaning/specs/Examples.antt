-- A small table of nodes to compute with: (2 + x) × 3.
-- Assumes nothing.
use Rattle.std.specs.Prelude.{ℕ, zero, suc, pos}
use Rattle.pool.specs.declared.node.Node.{Node}
use Rattle.pool.specs.declared.node.Node.TheVariants.{Empty, Variable, Lit, Add, Mul}

unfoldable pub small_table : ℕ → Node
small_table zero = Lit (pos 2)
small_table (suc zero) = Variable 0
small_table (suc (suc zero)) = Add 0 1
small_table (suc (suc (suc zero))) = Lit (pos 3)
small_table (suc (suc (suc (suc zero)))) = Mul 2 3
small_table (suc (suc (suc (suc (suc i))))) = Empty
