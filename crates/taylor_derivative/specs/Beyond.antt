-- "From 19! on the answer is 12, unless 18 .. comes first": of a list, by the pool's count.
-- Assumes nothing.
use Rattle.std.specs.Prelude.{cond, ℕ, ◌+◌, leb}
use Rattle.refusals.specs.Refusals.{out_of_range, pool_full}
use Rattle.pool.specs.Pool.{limit}

-- the literals that the source's fold makes before it comes to 19!: the first 1, the numbers 1 to 19, the products 3! to 18!
abbrev pub literals_before19 : ℕ
literals_before19 = 36

abbrev pub refused_from19 : ℕ → ℕ
refused_from19 count = cond (leb (count + literals_before19) limit) out_of_range pool_full
