-- What the call answers and leaves is its promise: where the file or the state is refused, the room is short, a device is not there, and where all devices are
-- placed. Assumes nothing.
use Rattle.std.specs.Prelude.{Result, Ok, Err}
use Prim.Native.Nat.{ℕ, ◌*◌, ◌≤◌, ◌<◌}
use mathlib.Core.Path.{◌≡◌, refl, sym, ap, ◌∙◌, subst}
use mathlib.Core.Bool.{Bool, true, false}
use mathlib.Core.List.{List, [], ◌∷◌, ◌++◌, map}
use native.Mathlib.Omega.{arith}
use borrow.Author.Tests.{le-leb, lt-leb, lt-ltb, le-ltb}
use lib.ListN.{length, get_or, drop}
use lib.Dec.{leb, eqb}
use Rattle.rules.specs.Lists.{flat, pick}
use Rattle.rules.specs.Mesh.{devices as devices_of, device_coords}
use Rattle.rules.specs.Sharding.{first_indexes}
use Rattle.rules.specs.Refusals.{Judged, accept, refuse, ◌>>=◌, ◌>>◌, need}
use Rattle.types.specs.Answers.{number_of, reason_of, refused_with, refusal_of}
use Rattle.rules.specs.PlanFile.{StateAnswer, state_of}
use Rattle.rules.specs.Calls.{PlaceAnswer, place_of}
use Rattle.types.specs.declared.Reason.TheVariants.{OutputTooShort, NoSuchDevice}
use Rattle.types.specs.declared.Refusal.{Refusal}
use Rattle.types.proofs.Refusals.{refusal-told}
use Rattle.types.proofs.Answers.{place-listed}
use Rattle.placements.specs.PlaceAll.{firsts_of, place_all_of, placed_before, place_all_leaves, firsts_out, placed_all_of, placed_all_with, place_beside, PlaceAllPromise}
use Rattle.placements.specs.Placing.{refused_at, leading}
use Rattle.placements.proofs.Firsts.{led-below, led-past, Even, parts-length, parts_at, firsts-placed, firsts-refused, placed-leading}

-- a refused outcome is none of devices placed
not-placed : {r : Refusal} → ◌≡◌ {A = Result (Unit {0}) Refusal} (Err r) (Ok tt) → ⊥
not-placed e = cc

-- refusals are the same whatever would be accepted
abbrev number_in : {A : Type 0} → Judged A → ℕ
number_in (accept a) = 0
number_in (refuse n k) = n

abbrev step_in : {A : Type 0} → Judged A → ℕ
step_in (accept a) = 0
step_in (refuse n k) = k

same-refusal : {A B : Type 0} {n k m l : ℕ} → ◌≡◌ {A = Judged A} (refuse n k) (refuse m l) → ◌≡◌ {A = Judged B} (refuse n k) (refuse m l)
same-refusal e = λ i. refuse (number_in (e i)) (step_in (e i))

pick_same : (b : Bool) (n : ℕ) → pick b n n ≡ n
pick_same true n = refl
pick_same false n = refl

-- 33 is not 32
other-number : {A : Type 0} → ◌≡◌ {A = Judged A} (refuse 33 0) (refuse 32 0) → ⊥
other-number e =
    let n : ◌≡◌ {A = ℕ} 33 32 = ap number_in e in
    absurd (omega (arith, n))

accepted-not : {A : Type 0} {a : A} {n k : ℕ} → ◌≡◌ {A = Judged A} (accept a) (refuse n k) → ⊥
accepted-not e = subst Accepts e tt
  where
    Accepts : {A : Type 0} → Judged A → Type 0
    Accepts (accept a) = Unit {0}
    Accepts (refuse n k) = ⊥

module _ (file : List ℕ) (state : ℕ) (devices out : List ℕ) where
  -- the answer beside a refusal
  answered : (n k place : ℕ) → place_all_of file state devices out ≡ refuse n k → pick (eqb n 32) (placed_before file state devices) 0 ≡ place
      → placed_all_of file state devices out ≡ record { outcome = Err (refusal_of n k); place = place }
  answered n k place e h =
      ap (λ (j : Judged (List ℕ)). placed_all_with j (place_beside j (placed_before file state devices))) e
      ∙ ap (λ (p : ℕ). record { outcome = Err (refusal_of n k); place = p }) h

  -- after a refusal all entries are as they were
  stays : {outAfter : List ℕ} → outAfter ≡ place_all_leaves file state devices out
      → (number step : ℕ) → place_all_of file state devices out ≡ refuse number step → outAfter ≡ out
  unfolding place_all_leaves
  stays l n k e = l ∙ ap (λ (j : Judged (List ℕ)). firsts_out j out) e

  -- ---- the file or the state is refused

  module _ (t : Refusal) (e : state_of file state ≡ refused_with t) where
    all-stopped : place_all_of file state devices out ≡ refused_with t
    unfolding place_all_of
    all-stopped = rw e refl

    one-stopped : (d : ℕ) → place_of file state d ≡ refused_with t
    unfolding place_of
    one-stopped d = rw e refl

    none_before : (ds : List ℕ) → placed_before file state ds ≡ 0
    unfolding placed_before
    none_before [] = refl
    none_before (d ∷ ds) = rw (one-stopped d) refl

    pub stopped : PlaceAllPromise file state devices out (record { outcome = Err t; place = 0 }) out
    unfolding place_all_leaves
    stopped =
        let leaves : out ≡ place_all_leaves file state devices out = sym (ap (λ (j : Judged (List ℕ)). firsts_out j out) all-stopped) in
        record {
          answers = sym (answered (number_of t.reason) t.step 0 all-stopped
              (ap (λ (p : ℕ). pick (eqb (number_of t.reason) 32) p 0) (none_before devices) ∙ pick_same (eqb (number_of t.reason) 32) 0)
              ∙ (λ i. record { outcome = Err (refusal-told t i); place = 0 }));
          leaves = leaves;
          one_by_one = λ p. absurd (not-placed p);
          first_refused = λ w. (one-stopped (get_or devices 0 0) ∙ same-refusal (sym all-stopped ∙ w), λ i h. absurd (omega arith));
          refused = stays leaves;
        }

  -- ---- the state is there

  module _ (s : StateAnswer) (on : state_of file state ≡ accept s) where
    place-past : (d : ℕ) → devices_of s.mesh ≤ d → place_of file state d ≡ refuse 32 0
    unfolding place_of
    place-past d h = rw on (simp (le-ltb d (devices_of s.mesh) h))

    -- the first indexes of a device
    abbrev pub indexesOf : ℕ → List ℕ
    indexesOf d = first_indexes s.mesh s.sharding.dims s.shard (device_coords s.order s.mesh d)

    pub place-among : (d : ℕ) → d < devices_of s.mesh
        → place_of file state d ≡ accept (record { rank = length s.sizes; sharding = s.sharding; shard = s.shard; first = indexesOf d })
    unfolding place_of
    place-among d h = rw on (simp (lt-ltb d (devices_of s.mesh) h))

    -- of the state's room the rest is that of its devices
    room_is : (b : Bool) → leb (length devices * length s.sizes) (length out) ≡ b
        → place_all_of file state devices out ≡ ◌>>◌ (need b 33) (firsts_of file state devices)
    unfolding place_all_of
    room_is b e = rw (on, e) refl

    pub short : length out < length devices * length s.sizes → PlaceAllPromise file state devices out (refused_at OutputTooShort 0) out
    unfolding place_all_leaves reason_of
    short h =
        let all : place_all_of file state devices out ≡ refuse 33 0 = room_is false (lt-leb (length devices * length s.sizes) (length out) h) in
        let leaves : out ≡ place_all_leaves file state devices out = sym (ap (λ (j : Judged (List ℕ)). firsts_out j out) all) in
        record {
          answers = sym (answered 33 0 0 all refl);
          leaves = leaves;
          one_by_one = λ p. absurd (not-placed p);
          first_refused = λ w. absurd (other-number (sym all ∙ w));
          refused = stays leaves;
        }

    module _ (room : length devices * length s.sizes ≤ length out) where
      all_firsts : place_all_of file state devices out ≡ firsts_of file state devices
      all_firsts = room_is true (le-leb (length devices * length s.sizes) (length out) room)

      among : (d : ℕ) → d < devices_of s.mesh → (a : PlaceAnswer) × (place_of file state d ≡ accept a)
      among d h = (_, place-among d h)

      -- a device is not there
      pub missing : (place : ℕ) → place ≡ leading (devices_of s.mesh) devices → place < length devices
          → PlaceAllPromise file state devices out (refused_at NoSuchDevice place) out
      unfolding place_all_leaves reason_of
      missing place e h =
          let D = devices_of s.mesh in
          let lt : leading D devices < length devices = subst (λ (n : ℕ). n < length devices) e h in
          let all : place_all_of file state devices out ≡ refuse 32 0 = all_firsts ∙ firsts-refused file state D place-past among devices lt in
          let leaves : out ≡ place_all_leaves file state devices out = sym (ap (λ (j : Judged (List ℕ)). firsts_out j out) all) in
          record {
            answers = sym (answered 32 0 place all (placed-leading file state D place-past among devices ∙ sym e));
            leaves = leaves;
            one_by_one = λ p. absurd (not-placed p);
            first_refused = λ w. (
              place-past (get_or devices place 0) (subst (λ (n : ℕ). D ≤ get_or devices n 0) (sym e) (led-past D devices lt)),
              λ i g. among (get_or devices i 0) (led-below D devices i (subst (λ (n : ℕ). i < n) e g)),
            );
            refused = stays leaves;
          }

      -- all are
      module _ (F : ℕ → List ℕ) (even : Even F (length s.sizes) devices)
          (there : (i : ℕ) → i < length devices → (get_or devices i 0 < devices_of s.mesh) × (indexesOf (get_or devices i 0) ≡ F (get_or devices i 0))) where
        all_placed : place_all_of file state devices out ≡ accept (flat (map F devices))
        all_placed =
            all_firsts
            ∙ firsts-placed file state F devices (λ i h. (_, place-among (get_or devices i 0) (there i h).0, (there i h).1))

        pub placed : PlaceAllPromise file state devices out (record { outcome = Ok tt; place = 0 })
            (flat (map F devices) ++ drop (length devices * length s.sizes) out)
        unfolding place_all_leaves
        placed =
            let rank = length s.sizes in
            let leaves : flat (map F devices) ++ drop (length devices * rank) out ≡ place_all_leaves file state devices out =
            ap (λ (n : ℕ). flat (map F devices) ++ drop n out) (sym (parts-length F rank devices even))
            ∙ sym (ap (λ (j : Judged (List ℕ)). firsts_out j out) all_placed) in
            record {
              answers = sym (ap (λ (j : Judged (List ℕ)). placed_all_with j (place_beside j (placed_before file state devices))) all_placed);
              leaves = leaves;
              one_by_one = λ p i h. (
                _,
                place-among (get_or devices i 0) (there i h).0,
                parts_at F rank devices even i h (drop (length devices * rank) out) ∙ sym (there i h).1,
              );
              first_refused = λ w. absurd (accepted-not (sym all_placed ∙ w));
              refused = stays leaves;
            }

-- ---- each number that it refuses with is a reason's

firsts-listed : (file : List ℕ) (state : ℕ) (ds : List ℕ) (n k : ℕ) → firsts_of file state ds ≡ refuse n k → number_of (reason_of n) ≡ n
unfolding firsts_of
firsts-listed file state [] n k e = absurd (accepted-not e)
firsts-listed file state (d ∷ ds) n k e = go (place_of file state d) refl (firsts-listed file state ds n k) e
  where
    Later : Type 0
    Later = firsts_of file state ds ≡ refuse n k → number_of (reason_of n) ≡ n

    rest : PlaceAnswer → Judged (List ℕ)
    rest a = ◌>>=◌ (firsts_of file state ds) (λ l. accept (a.first ++ l))

    later : (a : PlaceAnswer) (j : Judged (List ℕ)) → firsts_of file state ds ≡ j → Later → ◌>>=◌ j (λ l. accept (a.first ++ l)) ≡ refuse n k
        → number_of (reason_of n) ≡ n
    later a (accept l) q f e = absurd (accepted-not e)
    later a (refuse m l) q f e = f (q ∙ same-refusal e)

    go : (j : Judged PlaceAnswer) → place_of file state d ≡ j → Later → ◌>>=◌ j rest ≡ refuse n k → number_of (reason_of n) ≡ n
    go (refuse m l) q f e = place-listed file state d n k (q ∙ same-refusal e)
    go (accept a) q f e = later a (firsts_of file state ds) refl f e

module _ (file : List ℕ) (state : ℕ) (devices out : List ℕ) where
  pub all_listed : (n k : ℕ) → place_all_of file state devices out ≡ refuse n k → number_of (reason_of n) ≡ n
  unfolding place_all_of place_of reason_of
  all_listed n k e = go (state_of file state) refl e
    where
      rest : StateAnswer → Judged (List ℕ)
      rest s = ◌>>◌ (need (leb (length devices * length s.sizes) (length out)) 33) (firsts_of file state devices)

      room : (b : Bool) → ◌>>◌ (need b 33) (firsts_of file state devices) ≡ refuse n k → number_of (reason_of n) ≡ n
      room true e = firsts-listed file state devices n k e
      room false e = subst (λ (m : ℕ). number_of (reason_of m) ≡ m) (ap number_in e) refl

      go : (j : Judged StateAnswer) → state_of file state ≡ j → ◌>>=◌ j rest ≡ refuse n k → number_of (reason_of n) ≡ n
      go (refuse m l) q e = place-listed file state 0 n k (rw q (same-refusal e))
      go (accept s) q e = room (leb (length devices * length s.sizes) (length out)) e
