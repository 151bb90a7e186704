-- What is known of a pool after a refusal: where the next node goes and where there is no room are as before the call. Entries that were put before the refusal lie past the count.
-- Assumes nothing.
use Rattle.std.specs.Prelude.{Result, OnErr, ◌≡◌}
use Rattle.refusals.specs.declared.Refusal.{Refusal}
use Rattle.pool.specs.Pool.{Pool}
use Rattle.pool.specs.declared.table.Room.{Room}

-- the number of the next node, and the number at which the pool is full
abbrev pub room_of : Pool → Room
room_of P = record { count = P.count; end = P.end }

-- after a refusal the room is what it was
abbrev pub RoomKept : {A : Type 0} → Result A Refusal → Room → Pool → Type 0
RoomKept r room Q = OnErr r (room_of Q ≡ room)
