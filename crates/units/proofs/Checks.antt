-- The check of a whole file, but for the words moved, as its header's judgement and the rest (`check-is`), and the header's judgement by its 18 bytes and the length of the file
-- alone (`header-same`). Assumes nothing.
use Prim.Native.Nat.{ℕ, ◌+◌, ◌*◌, ◌≤◌, ◌<◌, max}
use mathlib.Core.Path.{◌≡◌, refl, sym, ap, ap₂, ◌∙◌}
use mathlib.Core.Bool.{Bool}
use mathlib.Core.List.{List, ◌++◌}
use native.Mathlib.Omega.{arith}
use native.Mathlib.Decide.{dec_lt}
use borrow.Author.Tests.{le-leb, lt-leb, eq-eqb}
use lib.ListN.{length, get_or, take, replicate, length-append, length-replicate, get_or-append}
use lib.Seq.{take-length, length-take-le, get_or-take}
use lib.Dec.{leb, eqb, eqb→eq, lit≤, lit<}
use Rattle.rules.specs.Lists.{in_turn}
use Rattle.rules.specs.Mesh.{devices}
use Rattle.rules.specs.Limits.{most_devices, most_words, least_bytes, most_axes, most_dims, most_bytes, most_steps, every_kind, present}
use Rattle.rules.specs.Sharding.{Sharding, shard_sizes}
use Rattle.rules.specs.Collectives.{Step, after}
use Rattle.rules.specs.Refusals.{Judged, accept, refuse, ◌>>=◌, ◌>>◌, need}
use Rattle.rules.specs.PlanFile.{Read, u16_at, edition, axis_count, rank_count, step_count, mesh_offset, tensor_offset, sharding_offset, steps_offset, total_length}
use Rattle.rules.specs.PlanFile.{edition_known, axes_allowed, rank_allowed, judge_header, judge_header_by, sizes_at, carries_order, order_at, MeshAndTable, mesh_and_table_at, mesh_and_table_at_by}
use Rattle.rules.specs.PlanFile.{carries_replicated, sharding_at, judge_start, one_meaning, Front, judge_front, judge_front_by, Outermost, outermost_at, Plan, judge, judge_by, announced, announced_shape, room}
use Rattle.rules.specs.Calls.{CheckAnswer, check_of}
use Rattle.laws.specs.Demands.{largest_on}
use Rattle.laws.proofs.Judging.{need-inv, then-assoc, bind_assoc}
use Rattle.laws.proofs.Turns.{first-largest}
use Rattle.laws.proofs.Repeats.{ToldOutermost, outermost-tells}
use Rattle.laws.proofs.Accepted.{HeaderFacts, header-facts, room-running}
use Rattle.reader.specs.Reading.{numbers_of, header_of}
use Rattle.reader.specs.declared.Header.{Header}
use Rattle.opening.specs.Opening.{judge_opening}
use Rattle.blocks.specs.Blocks.{shard_words}
use Rattle.units.specs.Units.{in_mesh, headed, unpriced}
use Rattle.units.proofs.Steps.{bind-same, outer_rest}
use Rattle.units.proofs.Rests.{after-need, steps_from, start_from, table_from, order_rest_from, mesh_rest, rest_of}

-- ---- the check is the header and the rest

-- a judgement that stands before both
then-bind : {A B C : Type 0} (m : Judged A) (j : Judged B) (f : B → Judged C) → ◌>>=◌ (◌>>◌ m j) f ≡ ◌>>◌ m (◌>>=◌ j f)
then-bind (accept a) j f = refl
then-bind (refuse n k) j f = refl

-- a refusal has no words moved
unpriced-bind : {A : Type 0} (j : Judged A) (f : A → Judged CheckAnswer) → unpriced (◌>>=◌ j f) ≡ ◌>>=◌ j (λ a. unpriced (f a))
unpriced-bind (accept a) f = refl
unpriced-bind (refuse n k) f = refl

-- the offset is tested before the section
sizes-offset : (most z o count offset : ℕ) (file : List ℕ) (at : ℕ)
    → sizes_at most z o count offset file at ≡ ◌>>◌ (need (eqb offset at) 6) (sizes_at most z o count at file at)
unfolding sizes_at
sizes-offset most z o count offset file at = sym (rw (eq-eqb at at refl) refl)

sharding-offset : (carried : Bool) (n rank offset : ℕ) (file : List ℕ) (at : ℕ)
    → sharding_at carried n rank offset file at ≡ ◌>>◌ (need (eqb offset at) 6) (sharding_at carried n rank at file at)
unfolding sharding_at
sharding-offset carried n rank offset file at = sym (rw (eq-eqb at at refl) refl)

module _ (file : List ℕ) where
  abbrev answer_of : Plan → CheckAnswer
  answer_of p = record {
    room = room p;
    devices = devices p.mesh;
    steps = length p.runs;
    rank = length p.sizes;
    sharding = announced p (length p.steps);
    shard = announced_shape p (length p.steps);
    moved = 0;
  }

  -- the steps, to the answer
  abbrev steps_of : Front → Judged CheckAnswer
  steps_of f = ◌>>=◌ (◌>>=◌ (outermost_at every_kind f.mesh f.sizes file 0 (step_count file) 1 f.next f.start) (λ (ts : Outermost). ◌>>◌ (need (eqb ts.next (length file)) 9)
      (accept (record { mesh = f.mesh; order = f.order; sizes = f.sizes; start = f.start; records = ts.records; steps = ts.steps; runs = ts.runs }))))
      (λ (p : Plan). accept (answer_of p))

  steps-of : (f : Front) → steps_of f ≡ outer_rest (step_count file) file f.mesh f.sizes (step_count file) 1 0 (shard_words f.mesh f.sizes f.start) f.next f.start
  unfolding announced announced_shape
  steps-of f =
      bind_assoc (outermost_at every_kind f.mesh f.sizes file 0 (step_count file) 1 f.next f.start) _ _
      ∙ bind-same (outermost_at every_kind f.mesh f.sizes file 0 (step_count file) 1 f.next f.start) _ _ (λ ts e.
      after-need (eqb ts.next (length file)) 9 _ _ ∙ ap (◌>>◌ (need (eqb ts.next (length file)) 9)) (go ts
      (outermost-tells f.mesh f.sizes file every_kind 0 (step_count file) 1 f.next f.start ts (lit≤ tt) e)))
    where
      words : Sharding → ℕ
      words s = shard_words f.mesh f.sizes s

      go : (ts : Outermost) → ToldOutermost f.mesh f.sizes file 0 (step_count file) f.start ts
          → accept (answer_of (record { mesh = f.mesh; order = f.order; sizes = f.sizes; start = f.start; records = ts.records; steps = ts.steps; runs = ts.runs }))
          ≡ accept (record {
            room = devices f.mesh * max (words f.start) (largest_on words f.start ts.steps);
            devices = devices f.mesh;
            steps = step_count file;
            rank = length f.sizes;
            sharding = in_turn after ts.steps f.start;
            shard = shard_sizes f.mesh f.sizes (in_turn after ts.steps f.start).dims;
            moved = 0;
          })
      go ts g =
          let p : Plan = record { mesh = f.mesh; order = f.order; sizes = f.sizes; start = f.start; records = ts.records; steps = ts.steps; runs = ts.runs } in
          let m : largest_on words f.start ts.steps ≡ max (words f.start) (largest_on words f.start ts.steps) = omega (arith, first-largest words f.start ts.steps) in
          let r : room p ≡ devices f.mesh * max (words f.start) (largest_on words f.start ts.steps) = room-running p ∙ ap (λ (x : ℕ). devices f.mesh * x) m in
          let s : announced p (length ts.steps) ≡ in_turn after ts.steps f.start = ap (λ (l : List Step). in_turn after l f.start) (take-length ts.steps) in
          λ i. accept (record {
            room = r i;
            devices = devices f.mesh;
            steps = g.many i;
            rank = length f.sizes;
            sharding = s i;
            shard = shard_sizes f.mesh f.sizes (s i).dims;
            moved = 0;
          })

  abbrev h : Header
  h = numbers_of file

  -- the starting sharding, its judgement, the steps
  abbrev front_for : MeshAndTable → Read Sharding → Judged Front
  front_for m s = do
    need (eqb (steps_offset file) s.next) 6
    judge_start m.mesh m.sizes s.value
    need (one_meaning (edition file) s.value.replicated) 18
    accept (record { mesh = m.mesh; order = m.order; sizes = m.sizes; start = s.value; next = s.next })

  front_of : (m : MeshAndTable) (s : Read Sharding) → ◌>>=◌ (front_for m s) steps_of ≡ steps_from h file m.mesh m.sizes s.value s.next
  unfolding judge_opening
  front_of m s =
      let f : Front = record { mesh = m.mesh; order = m.order; sizes = m.sizes; start = s.value; next = s.next } in
      after-need (eqb (steps_offset file) s.next) 6 _ steps_of
      ∙ ap (◌>>◌ (need (eqb (steps_offset file) s.next) 6)) (then-bind (judge_start m.mesh m.sizes s.value) _ steps_of
      ∙ ap (◌>>◌ (judge_start m.mesh m.sizes s.value)) (after-need (one_meaning (edition file) s.value.replicated) 18 (accept f) steps_of
      ∙ ap (◌>>◌ (need (one_meaning (edition file) s.value.replicated) 18)) (steps-of f))
      ∙ sym (then-assoc (judge_start m.mesh m.sizes s.value) (need (one_meaning (edition file) s.value.replicated) 18) _))

  sharding-of : (m : MeshAndTable) (at : ℕ)
      → ◌>>=◌ (◌>>=◌ (sharding_at (carries_replicated (edition file)) (axis_count file) (rank_count file) (sharding_offset file) file at) (front_for m)) steps_of
      ≡ start_from h file m.mesh m.sizes at
  sharding-of m at =
      ap (λ (j : Judged (Read Sharding)). ◌>>=◌ (◌>>=◌ j (front_for m)) steps_of)
      (sharding-offset (carries_replicated (edition file)) (axis_count file) (rank_count file) (sharding_offset file) file at)
      ∙ ap (λ (j : Judged Front). ◌>>=◌ j steps_of) (after-need (eqb (sharding_offset file) at) 6 _ (front_for m))
      ∙ after-need (eqb (sharding_offset file) at) 6 _ steps_of
      ∙ ap (◌>>◌ (need (eqb (sharding_offset file) at) 6)) (bind_assoc (sharding_at (carries_replicated (edition file)) (axis_count file) (rank_count file) at file at) (front_for m) steps_of
      ∙ bind-same (sharding_at (carries_replicated (edition file)) (axis_count file) (rank_count file) at file at) _ _ (λ s e. front_of m s))

  -- the sizes of the table
  table_of : (mesh : List ℕ) (at : ℕ)
      → ◌>>=◌ (sizes_at most_words 12 13 (rank_count file) (tensor_offset file) file at) (λ (t : Read (List ℕ)). start_from h file mesh t.value t.next) ≡ table_from h file mesh at
  table_of mesh at =
      ap (λ (j : Judged (Read (List ℕ))). ◌>>=◌ j (λ (t : Read (List ℕ)). start_from h file mesh t.value t.next))
      (sizes-offset most_words 12 13 (rank_count file) (tensor_offset file) file at)
      ∙ after-need (eqb (tensor_offset file) at) 6 _ _

  -- the mesh, its order, the table
  mesh-of : ◌>>=◌ (mesh_and_table_at (carries_order (edition file)) (axis_count file) (rank_count file) file) (λ (m : Read MeshAndTable). start_from h file m.value.mesh m.value.sizes m.next)
      ≡ ◌>>◌ (need (eqb (mesh_offset file) least_bytes) 6) (mesh_rest h file least_bytes)
  unfolding mesh_and_table_at_by
  mesh-of =
      bind_assoc (sizes_at most_devices 10 11 (axis_count file) (mesh_offset file) file 18) _ _
      ∙ bind-same (sizes_at most_devices 10 11 (axis_count file) (mesh_offset file) file 18) _ (λ (m : Read (List ℕ)). order_rest_from h file m.value m.next) (λ m e.
      bind_assoc (order_at (carries_order (edition file)) (devices m.value) file m.next) _ _
      ∙ bind-same (order_at (carries_order (edition file)) (devices m.value) file m.next) _ _ (λ o d.
      bind_assoc (sizes_at most_words 12 13 (rank_count file) (tensor_offset file) file o.next) _ _ ∙ table_of m.value o.next))
      ∙ ap (λ (j : Judged (Read (List ℕ))). ◌>>=◌ j (λ (m : Read (List ℕ)). order_rest_from h file m.value m.next))
      (sizes-offset most_devices 10 11 (axis_count file) (mesh_offset file) file 18)
      ∙ after-need (eqb (mesh_offset file) least_bytes) 6 _ _

  -- THE CHECK IS THE HEADER AND THE REST
  pub check-is : unpriced (check_of file) ≡ ◌>>◌ (judge_header file) (◌>>◌ (need (eqb (mesh_offset file) least_bytes) 6) (rest_of h file in_mesh least_bytes))
  unfolding check_of judge_by judge_front_by mesh_and_table_at_by
  check-is =
      unpriced-bind (judge file) _ ∙ bind_assoc (judge_front file) _ _ ∙ then-bind (judge_header file) _ _ ∙ ap (◌>>◌ (judge_header file)) (
      bind_assoc (mesh_and_table_at (carries_order (edition file)) (axis_count file) (rank_count file) file) _ _
      ∙ bind-same (mesh_and_table_at (carries_order (edition file)) (axis_count file) (rank_count file) file) _ _ (λ m e. sharding-of m.value m.next)
      ∙ mesh-of)

-- a header that is refused
pub check-stops : (file : List ℕ) {a k : ℕ} → judge_header file ≡ refuse a k → unpriced (check_of file) ≡ refuse a k
check-stops file e = check-is file ∙ ap (λ (j : Judged (Unit {0})). ◌>>◌ j (◌>>◌ (need (eqb (mesh_offset file) least_bytes) 6) (rest_of (numbers_of file) file in_mesh least_bytes))) e

-- ---- the header's judgement, by its bytes and the length

-- the bytes of a header are those of the file
abbrev pub Begin : (file head : List ℕ) → Type 0
Begin file head = (i : ℕ) → i < least_bytes → get_or head i 0 ≡ get_or file i 0

number_same : (file head : List ℕ) → Begin file head → (i : ℕ) → i + 1 < least_bytes → u16_at head i ≡ u16_at file i
unfolding u16_at
number_same file head bytes i h = ap₂ (λ (a b : ℕ). a + b * 256) (bytes i (omega arith)) (bytes (i + 1) h)

judged-same : (file head : List ℕ) → Begin file head → length head ≡ length file → judge_header head ≡ judge_header file
unfolding judge_header_by
judged-same file head bytes size =
    let number : (i : ℕ) → i + 1 < least_bytes → u16_at head i ≡ u16_at file i = number_same file head bytes in
    λ i. ◌>>◌ (need (leb least_bytes (size i)) 1) (◌>>◌ (need (leb (size i) most_bytes) 2) (◌>>◌ (need (edition_known present (number 0 (lit< tt) i)) 3)
    (◌>>◌ (need (eqb (number 16 (lit< tt) i) (size i)) 4) (◌>>◌ (need (axes_allowed (number 2 (lit< tt) i)) 5)
    (◌>>◌ (need (rank_allowed (number 4 (lit< tt) i)) 5) (need (leb (number 6 (lit< tt) i) most_steps) 5))))))

first-bytes : (file : List ℕ) → Begin file (take least_bytes file)
first-bytes file i h = get_or-take least_bytes file i 0 h

numbers-by : (file head : List ℕ) → Begin file head → numbers_of head ≡ numbers_of file
numbers-by file head bytes =
    let number : (i : ℕ) → i + 1 < least_bytes → u16_at head i ≡ u16_at file i = number_same file head bytes in
    λ i. record {
      edition = number 0 (lit< tt) i;
      axes = number 2 (lit< tt) i;
      rank = number 4 (lit< tt) i;
      steps = number 6 (lit< tt) i;
      mesh_at = number 8 (lit< tt) i;
      table_at = number 10 (lit< tt) i;
      sharding_at = number 12 (lit< tt) i;
      steps_at = number 14 (lit< tt) i;
    }

-- A HEADER IS READ BY ITS BYTES AND THE LENGTH
pub header-by : (file head : List ℕ) → Begin file head → length head ≡ length file → header_of head ≡ header_of file
unfolding header_of
header-by file head bytes size =
    ap₂ (λ (j : Judged (Unit {0})) (x : Header). ◌>>◌ j (accept x)) (judged-same file head bytes size) (numbers-by file head bytes)

-- THE NUMBERS OF THE HEADER ARE THE FILE'S
pub numbers-same : (file : List ℕ) → numbers_of (take least_bytes file) ≡ numbers_of file
numbers-same file = numbers-by file (take least_bytes file) (first-bytes file)

pub total-same : (file : List ℕ) → total_length (take least_bytes file) ≡ total_length file
total-same file = number_same file (take least_bytes file) (first-bytes file) 16 (lit< tt)

pub headed-long : (head : List ℕ) (n : ℕ) → length (headed head n) ≡ n
headed-long head n = length-take-le n (head ++ replicate n 0) (omega (arith, length-append head (replicate n 0), length-replicate {A = ℕ} n 0))

too_short : (file : List ℕ) → length file < least_bytes → judge_header file ≡ refuse 1 0
unfolding judge_header_by
too_short file h = simp (lt-leb least_bytes (length file) h)

-- SO IS THE HEADER'S JUDGEMENT
pub header-same : (file : List ℕ) → judge_header (headed (take least_bytes file) (length file)) ≡ judge_header file
header-same file = go (dec_lt (length file) least_bytes)
  where
    go : Dec (length file < least_bytes) → judge_header (headed (take least_bytes file) (length file)) ≡ judge_header file
    go (yes s) =
        too_short (headed (take least_bytes file) (length file)) (omega (arith, headed-long (take least_bytes file) (length file))) ∙ sym (too_short file s)
    go (no d) =
        judged-same file (headed (take least_bytes file) (length file)) (λ i l.
        get_or-take (length file) (take least_bytes file ++ replicate (length file) 0) i 0 (omega (arith, d))
        ∙ get_or-append (take least_bytes file) (replicate (length file) 0) 0 i (omega (arith, length-take-le least_bytes file (omega (arith, d))))
        ∙ first-bytes file i l) (headed-long (take least_bytes file) (length file))

-- 2
too_long : (file : List ℕ) → most_bytes < length file → judge_header file ≡ refuse 2 0
unfolding judge_header_by
too_long file h = let l : least_bytes ≤ length file = omega arith in simp (le-leb least_bytes (length file) l, lt-leb (length file) most_bytes h)

pub header-long : (head : List ℕ) (n : ℕ) → most_bytes < n → judge_header (headed head n) ≡ refuse 2 0
header-long head n h = too_long (headed head n) (omega (arith, headed-long head n))

pub check-long : (file : List ℕ) → most_bytes < length file → unpriced (check_of file) ≡ refuse 2 0
check-long file h = check-stops file (too_long file h)

-- 1
pub header-short : (head : List ℕ) (n : ℕ) → n < least_bytes → judge_header (headed head n) ≡ refuse 1 0
header-short head n h = too_short (headed head n) (omega (arith, headed-long head n))

pub check-short : (file : List ℕ) → length file < least_bytes → unpriced (check_of file) ≡ refuse 1 0
check-short file h = check-stops file (too_short file h)

-- the length is what the header says
pub total_is : (file : List ℕ) → judge_header file ≡ accept tt → total_length file ≡ length file
unfolding judge_header_by
total_is file e =
    let a = need-inv 0 (leb least_bytes (length file)) 1 _ tt e in
    let b = need-inv 0 (leb (length file) most_bytes) 2 _ tt a.1 in
    let c = need-inv 0 (edition_known present (edition file)) 3 _ tt b.1 in
    let d = need-inv 0 (eqb (total_length file) (length file)) 4 _ tt c.1 in
    eqb→eq (total_length file) (length file) d.0

-- what a header says that is judged with the length it names
pub headed-facts : (head : List ℕ) → length head ≡ least_bytes → judge_header (headed head (total_length head)) ≡ accept tt
    → (1 ≤ axis_count head) × (axis_count head ≤ most_axes) × (1 ≤ rank_count head) × (rank_count head ≤ most_dims) × (step_count head ≤ most_steps)
headed-facts head l e =
    let n : ℕ = total_length head in
    let h : HeaderFacts (headed head n) = header-facts (headed head n) e in
    let long : least_bytes ≤ n = omega (arith, h.long, headed-long head n) in
    let bytes : Begin head (headed head n) = λ i b.
    get_or-take n (head ++ replicate n 0) i 0 (omega (arith, long)) ∙ get_or-append head (replicate n 0) 0 i (omega (arith, l)) in
    let number : (i : ℕ) → i + 1 < least_bytes → u16_at (headed head n) i ≡ u16_at head i = number_same head (headed head n) bytes in
    let axes : axis_count (headed head n) ≡ axis_count head = number 2 (lit< tt) in
    let rank : rank_count (headed head n) ≡ rank_count head = number 4 (lit< tt) in
    let steps : step_count (headed head n) ≡ step_count head = number 6 (lit< tt) in (
      omega (arith, axes, h.axes_some),
      omega (arith, axes, h.axes_few),
      omega (arith, rank, h.rank_some),
      omega (arith, rank, h.rank_few),
      omega (arith, steps, h.steps_few),
    )
