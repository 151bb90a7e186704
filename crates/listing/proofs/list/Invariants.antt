-- The next key's place is behind this one's.
use Rattle.std.proofs.Common.{length, ◌-◌}
use Rattle.listing.proofs.list.Given as goal

abbrev pub decreases-loop-at : goal.decreases-loop-at
decreases-loop-at g l = length l.strip - l.at
