-- `number_list::Numbers::next_into` meets its contract: each turn reads one number.
-- Assumes nothing.
use Rattle.std.proofs.Common.{◌≡◌}
use Rattle.number_list.specs.Numbers.{behind_numbers}
use Rattle.number_list.proofs.Numbers.next_into.Given as goal

abbrev pub invariant-loop-i : goal.invariant-loop-i
invariant-loop-i g l = l.self.rest.now ≡ behind_numbers l.i l.initial.self.rest.now
