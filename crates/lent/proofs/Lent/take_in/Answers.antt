-- `lent::Lent::take_in` meets its contract: a pool is copied up to its count, and is 0 from there on.
-- Assumes nothing.
use mathlib.Core.Path.{refl}
use Rattle.refusals.specs.Refusals.{broken_pool}
use Rattle.pool.specs.Pool.{is_pool}
use Rattle.lent.proofs.Calling.{is_met}
use Rattle.lent.proofs.Taken.{kinds_taken, words_taken}
use Rattle.lent.proofs.Lent.take_in.Goals as goal

pub returns-clause-taken : goal.returns-clause-taken
returns-clause-taken c =
    let a = c.args.self.now in
    let p = is_met (is_pool a.kinds.now a.words.now a.count.now) broken_pool c.in_ok-tables.ensures.tested in
    let k = kinds_taken a.kinds.now a.words.now a.count.now p in
    let w = words_taken a.kinds.now a.words.now a.count.now p in
    rw (c.requires.kinds_value, c.requires.words_value, c.put_over.ensures, c.put_over-2.ensures, k, w) refl
