-- `writer::strip_below` meets its contract: the parts' strips and the own code stand one after the other, and each has room. The bound falls to the node's own number.
-- Assumes nothing.
use Rattle.strip_write.proofs.writer.+strip_below.Given as goal

abbrev pub decreases-strip_below : goal.decreases-strip_below
decreases-strip_below l = l.bound
