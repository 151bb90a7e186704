-- Writing a node file as a call from outside: what is checked, and what the lent output then holds.
-- Assumes nothing.
use Rattle.std.specs.Prelude.{List, [], ◌∷◌, ℕ, leb, length}
use Rattle.refusals.specs.Refusals.{broken_pool, unknown_node, no_room}
use Rattle.pool.specs.Nodes.{all_below}
use Rattle.pool.specs.Pool.{is_pool}
use Rattle.shape.specs.File.{written_file}
use Rattle.lent.specs.Call.{demand}
use Rattle.lent.specs.Writing.{Put, unwritten, writes}

-- 19. "The lent output is too short"
abbrev pub file_over : List ℕ → List ℕ → Put
file_over old file = demand (unwritten old) (leb (length file) (length old)) no_room (writes file old)

-- "Writing is refused by 1, 2 and 19 only", smallest number first
unfoldable pub write_call : List ℕ → List ℕ → ℕ → ℕ → List ℕ → Put
write_call ks ws n root old =
    demand (unwritten old) (is_pool ks ws n) broken_pool
    (demand (unwritten old) (all_below n (root ∷ [])) unknown_node
    (file_over old (written_file ks ws root)))
