-- Substitution and derivation as calls from outside: 1, then 2, then 3, then the work.
-- Assumes nothing.
use Rattle.std.specs.Prelude.{[], ◌∷◌, ℕ}
use Rattle.pool.specs.Pool.{Run}
use Rattle.lent.specs.Call.{given_nodes, given_variable}
use Rattle.walks.specs.Substitute.{substitute_var}
use Rattle.walks.specs.Derive.{derive}

abbrev pub substitute_work : ℕ → ℕ → ℕ → Run
substitute_work root var value = given_nodes (root ∷ value ∷ []) (given_variable var (substitute_var root var value))

abbrev pub derive_work : ℕ → ℕ → Run
derive_work root var = given_nodes (root ∷ []) (given_variable var (derive root var))
