-- `taylor_base::loops::pairs_in` meets its contract: one entry of both lists a turn.
-- Assumes nothing.
use Rattle.std.proofs.Common.{arith, ◌<◌, min, length}
use Rattle.std.proofs.lemmas.Grind.{common_steps}
use Rattle.std.proofs.lemmas.Result.{err_from_is_err_and}
use Rattle.taylor_base.proofs.Entrywise.{paired_starts, paired_onward, paired_stopped}
use Rattle.taylor_base.proofs.loops.pairs_in.Goals as goal

pub returns-in_err-first : goal.returns-in_err-first
returns-in_err-first g c f m =
    let p = err_from_is_err_and c.from_residual.result c.from_residual.ensures.1 in
    let some : 0 < min (length c.args.us.now) (length c.args.ws.now) = omega (arith, c.len.ensures.is, c.len.ensures.least, c.len-2.ensures.is, c.len-2.ensures.least) in
    rw (p.1, p.2) (paired_stopped f c.args.us.now c.args.ws.now (paired_starts f c.args.us.now c.args.ws.now c.args.pool.now) c.at.ensures c.at-2.ensures some (m _ _ _ _ _ c.in_err-first.ensures))

pub loop-k-init : goal.loop-k-init
loop-k-init g c =
    let some : 0 < min (length c.args.us.now) (length c.args.ws.now) = omega (arith, c.len.ensures.is, c.len.ensures.least, c.len-2.ensures.is, c.len-2.ensures.least) in
    record {
      always = c.requires;
      long = grind (arith, common_steps);
      pairs =
          λ f m.
          rw c.one-list.ensures
          (paired_onward f c.args.us.now c.args.ws.now (paired_starts f c.args.us.now c.args.ws.now c.args.pool.now) c.at.ensures c.at-2.ensures some (m _ _ _ _ _ c.in_ok-first.ensures));
    }

pub loop-k-preserved : goal.loop-k-preserved
loop-k-preserved g c =
    let more : c.loop-k.k < min (length c.args.us.now) (length c.args.ws.now) = omega (arith, c.len.ensures.is, c.len-2.ensures.is, c.min-end.ensures, c.loop-k-test.true) in
    record {
      always = c.loop-k.invariant.always;
      long = grind (arith, common_steps);
      pairs =
          λ f m.
          rw c.push.ensures
          (paired_onward f c.args.us.now c.args.ws.now (c.loop-k.invariant.pairs f m) c.at-in-loop-k.ensures c.at-in-loop-k-2.ensures more (m _ _ _ _ _ c.in_ok-make.ensures));
    }
