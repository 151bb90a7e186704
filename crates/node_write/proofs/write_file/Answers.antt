-- `node_write::write_file` meets its contract: the walk gives the entries and the length, and the bytes put are the file.
-- Assumes nothing.
use Rattle.std.proofs.Common.{rules}
use Rattle.node_write.proofs.Written.{roots_fit, pool_falls, all_listed, has_no_room, is_written}
use Rattle.node_write.proofs.write_file.Goals as goal

pub number_all-requires-clause-below : goal.number_all-requires-clause-below
number_all-requires-clause-below c = search (rules, roots_fit)

pub number_all-requires-clause-falls : goal.number_all-requires-clause-falls
number_all-requires-clause-falls c = search (rules, pool_falls)

pub returns-then-out-length : goal.returns-then-out-length
returns-then-out-length c = search (rules, has_no_room)

pub put_entries-requires-clause-listed : goal.put_entries-requires-clause-listed
put_entries-requires-clause-listed c = search (rules, all_listed)

pub returns : goal.returns
returns c = search (rules, is_written)
