-- One piece of work after another, however the steps are put together.
-- Assumes nothing.
use Rattle.std.proofs.Common.{◌≡◌, refl}
use Rattle.pool.specs.Pool.{Pool, done, refused}
use Rattle.taylor.specs.Work.{Result, Work, bind}

-- two ways to go on after the same work
pub bind_same : {A B : Type 0} (x : Result A) (m n : A → Work B) → ((v : A) (P : Pool) → m v P ≡ n v P) → bind x m ≡ bind x n
bind_same (done v P) m n h = h v P
bind_same (refused k) m n h = refl

-- work in three steps, however they are put together
pub bind_assoc : {A B C : Type 0} (x : Result A) (m : A → Work B) (n : B → Work C) → bind (bind x m) n ≡ bind x (λ v P. bind (m v P) n)
bind_assoc (done v P) m n = refl
bind_assoc (refused k) m n = refl
