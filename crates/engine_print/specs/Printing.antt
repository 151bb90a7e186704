-- Printing as a call from outside: 1, 2, then 10 if any reachable node is Max, then 19.
-- Assumes nothing.
use Rattle.std.specs.Prelude.{not, List, [], ◌∷◌, ℕ}
use Rattle.low_bytes.specs.Output.{text_fits}
use Rattle.refusals.specs.Refusals.{broken_pool, unknown_node, max_reached, no_room}
use Rattle.pool.specs.Nodes.{all_below}
use Rattle.pool.specs.Pool.{node_in, is_pool}
use Rattle.walks.specs.Print.{text_of, has_max}
use Rattle.lent.specs.Call.{demand}
use Rattle.lent.specs.Writing.{Put, unwritten, writes}

unfoldable pub print_call : List ℕ → List ℕ → ℕ → ℕ → List ℕ → Put
print_call ks ws n root out =
    demand (unwritten out) (is_pool ks ws n) broken_pool
    (demand (unwritten out) (all_below n (root ∷ [])) unknown_node
    (demand (unwritten out) (not (has_max (node_in ks ws) root)) max_reached
    (demand (unwritten out) (text_fits (text_of (node_in ks ws) root) out) no_room
    (writes (text_of (node_in ks ws) root) out))))
