-- THE SLOW LINE: byte by byte to the end is the check of the whole file (`slow-line`). One file is fixed; after each of its bytes the rest of it is judged as
-- the state says (`At`), whatever the next byte is (`turn`). Assumes nothing.
use Prim.Native.Nat.{ℕ, zero, suc, ◌+◌, ◌-◌, ◌*◌, ◌≤◌, ◌<◌, max}
use mathlib.Core.Path.{◌≡◌, refl, sym, ap, ap₂, ◌∙◌, subst}
use mathlib.Core.Bool.{Bool, true, false, not, ◌&&◌}
use mathlib.Core.List.{List, [], ◌∷◌, ◌++◌, append_assoc, append-nil}
use native.Mathlib.Omega.{arith}
use native.Mathlib.Decide.{dec_lt}
use borrow.Author.Tests.{lt-ltb, le-ltb, le-leb, lt-leb, eq-eqb, ne_eqb}
use lib.ListN.{length, take, length-append}
use lib.Seq.{take_at}
use lib.Dec.{T, ltb, leb, eqb, ltb→lt, lit≤}
use Rattle.rules.specs.Lists.{pick}
use Rattle.rules.specs.Mesh.{devices}
use Rattle.rules.specs.Limits.{most_devices, most_words, most_run, most_depth, least_bytes, most_bytes}
use Rattle.rules.specs.Sharding.{Sharding}
use Rattle.rules.specs.Collectives.{Step}
use Rattle.rules.specs.Refusals.{Judged, accept, refuse, ◌>>=◌, ◌>>◌, need, need_at}
use Rattle.rules.specs.PlanFile.{Read, u16_at, edition, axis_count, rank_count, step_count, mesh_offset, tensor_offset, sharding_offset, steps_offset, total_length}
use Rattle.rules.specs.PlanFile.{judge_header, sizes_at, carries_order, carries_replicated, list_read_at, lists_at, sharding_at, step_at, judge_step, same_sharding, is_repeat}
use Rattle.rules.specs.Calls.{CheckAnswer, check_of}
use Rattle.laws.proofs.Lists.{in-turn-append}
use Rattle.laws.proofs.Judging.{never}
use Rattle.laws.proofs.Accepted.{header-facts, section-facts}
use Rattle.reader.specs.Reading.{numbers_of}
use Rattle.reader.specs.declared.Header.{Header}
use Rattle.opening.specs.Opening.{judge_opening}
use Rattle.blocks.specs.Blocks.{Head, head_at, shard_words}
use Rattle.units.specs.Units.{
  Frame,
  Standing,
  Numbers,
  Phase,
  in_header,
  in_mesh,
  in_the_order,
  in_table,
  in_the_start,
  in_steps,
  at_end,
  stopped,
  State,
  counted,
  outermost,
  headed,
  to_table,
  mesh_then,
  order_then,
  after_header,
  after_mesh,
  after_number,
  past_table,
  after_start,
  after_step,
  after_plain,
  after_head,
  depth_in,
  Waiting,
  turned,
  tried,
  number_in,
  step_in,
  unit_in,
  head_from,
  held,
  fed,
  fed_if,
  pushed,
  closed,
  answer_in,
  end_of,
  unpriced,
  state_after,
  SlowLine,
}
use Rattle.units.proofs.Parts.{
  Part,
  got,
  bad,
  cut,
  InPart,
  whole,
  whole_long,
  sharding-part,
  sizes-part,
  number-part,
  item-part,
  number_at,
  Item,
  opens,
  takes,
  item_of,
  item_read,
  item-none,
}
use Rattle.units.proofs.Rests.{head_read, after_item, after-need, rest_of, steps_on, start-on, table_on, number-on, mesh-on}
use Rattle.units.proofs.Checks.{check-is, check-stops, numbers-same, total-same, total_is, header-same, header-short, check-short, header-long, check-long}

-- a reader that reads a part as it reads the file around it
abbrev Unitary : {A : Type 0} → (List ℕ → ℕ → Judged (Read A)) → Type 0
Unitary y = (pre part rest : List ℕ) → InPart pre part rest (y part 0) (y (whole pre part rest) (length pre))

-- the unit that has just become whole used all its bytes
exact : {A : Type 0} (y : List ℕ → ℕ → Judged (Read A)) → Unitary y → (u : List ℕ) (b : ℕ) (r : Read A) → y u 0 ≡ refuse 7 0 → y (u ++ b ∷ []) 0 ≡ accept r
    → length u < r.next
exact {A} y unitary u b r e a = go (y u 0) (y (u ++ b ∷ []) 0) e a (unitary [] u (b ∷ []))
  where
    go : (x z : Judged (Read A)) → x ≡ refuse 7 0 → z ≡ accept r → Part 0 (length u) (length (u ++ b ∷ [])) x z → length u < r.next
    go _ _ p q (got h) = absurd (never (sym p))
    go _ _ p q (bad h) = absurd (never q)
    go _ _ p q (cut far end) = let l = far r q in omega (arith, l)

-- a unit that the file ends in is 7
ends-in : {A : Type 0} (y : List ℕ → ℕ → Judged (Read A)) → Unitary y → (pre u : List ℕ) → y u 0 ≡ refuse 7 0 → y (whole pre u []) (length pre) ≡ refuse 7 0
ends-in {A} y unitary pre u e = go (y u 0) (y (whole pre u []) (length pre)) e (unitary pre u [])
  where
    go : (x z : Judged (Read A)) → x ≡ refuse 7 0 → Part (length pre) (length u) (length (whole pre u [])) x z → z ≡ refuse 7 0
    go _ _ p (got h) = absurd (never (sym p))
    go _ _ p (bad {a} {b} h) = p
    go _ _ p (cut far end) = end (omega (arith, whole_long pre u []))

-- no byte of a section is there
no-sizes : (most z o count : ℕ) → 1 ≤ count → sizes_at most z o count 0 [] 0 ≡ refuse 7 0
unfolding sizes_at
no-sizes most z o count l = simp (lt-leb (0 + 2 * count) 0 (omega arith))

no-lists : (carried : Bool) (n rank : ℕ) → sharding_at carried n rank 0 [] 0 ≡ refuse 7 0
unfolding sharding_at lists_at list_read_at
no-lists carried n zero = refl
no-lists carried n (suc rank) = refl

-- ---- one file

module _ (file : List ℕ) (header_is : judge_header file ≡ accept tt) where
  abbrev head : List ℕ
  head = take least_bytes file

  abbrev h : Header
  h = numbers_of head

  abbrev rest : Phase → ℕ → Judged CheckAnswer
  rest p at = rest_of h file p at

  -- what holds of a phase beside the rest that it stands for
  abbrev Sound : Phase → Type 0
  Sound in_header = Unit {0}
  Sound in_mesh = Unit {0}
  Sound (in_the_order mesh t) = t.count < devices mesh
  Sound (in_table mesh) = Unit {0}
  Sound (in_the_start mesh sizes) = Unit {0}
  Sound (in_steps mesh sizes q) = shard_words mesh sizes q.sharding ≤ q.largest
  Sound (at_end mesh sizes largest s) = Unit {0}
  Sound (stopped a k) = Unit {0}

  -- the unit is not whole
  abbrev Waits : Phase → List ℕ → Type 0
  Waits in_header u = ⊥
  Waits in_mesh u = sizes_at most_devices 10 11 (axis_count head) 0 u 0 ≡ refuse 7 0
  Waits (in_the_order mesh t) u = number_at u 0 ≡ refuse 7 0
  Waits (in_table mesh) u = sizes_at most_words 12 13 (rank_count head) 0 u 0 ≡ refuse 7 0
  Waits (in_the_start mesh sizes) u = sharding_at (carries_replicated (edition head)) (axis_count head) (rank_count head) 0 u 0 ≡ refuse 7 0
  Waits (in_steps mesh sizes q) u = item_read (depth_in q.frames) (length mesh) (length sizes) q.number u 0 ≡ refuse 7 0
  Waits (at_end mesh sizes largest s) u = u ≡ []
  Waits (stopped a k) u = u ≡ []

  abbrev Ready : Judged Phase → Type 0
  Ready (accept p) = Sound p × Waits p []
  Ready (refuse a k) = Unit {0}

  -- the check behind the header
  abbrev behind : Judged CheckAnswer
  behind = ◌>>◌ (need (eqb (mesh_offset head) least_bytes) 6) (rest in_mesh least_bytes)

  -- the bytes before the unit, those of the unit, those to come; and the rest of the file is judged as the phase says
  record At (p : Phase) (u more : List ℕ) : Type 0 where
    pre : List ℕ
    file-is : file ≡ whole pre u more
    sound : Sound p
    waits : Waits p u
    same : behind ≡ rest p (length pre)

  abbrev AtW : Waiting → List ℕ → Type 0
  AtW w more = At w.phase w.unit more

  snoc-whole : (pre u more : List ℕ) (b : ℕ) → whole pre u (b ∷ more) ≡ whole pre (u ++ b ∷ []) more
  snoc-whole pre u more b = ap (λ (l : List ℕ). pre ++ l) (sym (append_assoc u (b ∷ []) more))

  -- the state after a unit
  stands : (pre u more : List ℕ) → file ≡ whole pre u more → (j : Judged Phase) → Ready j
      → behind ≡ ◌>>=◌ j (λ p. rest p (length pre + length u)) → AtW (turned j) more
  stands pre u more f (accept p) r e = record {
    pre = pre ++ u;
    file-is = f ∙ sym (append_assoc pre u more);
    sound = r.0;
    waits = r.1;
    same = e ∙ ap (rest p) (sym (length-append pre u));
  }
  stands pre u more f (refuse a k) r e = record { pre = pre ++ u; file-is = f ∙ sym (append_assoc pre u more); sound = tt; waits = refl; same = e }

  module _ {A : Type 0} (y : List ℕ → ℕ → Judged (Read A)) (unitary : Unitary y) (p : Phase) (then : ℕ → A → Judged Phase) where
    -- THE NEXT BYTE
    turn : (pre u more : List ℕ) (b n : ℕ) → file ≡ whole pre u (b ∷ more) → n ≡ length pre + length (u ++ b ∷ []) → Sound p → y u 0 ≡ refuse 7 0
        → (y (u ++ b ∷ []) 0 ≡ refuse 7 0 → Waits p (u ++ b ∷ []))
        → ((r : Read A) → y (u ++ b ∷ []) 0 ≡ accept r → Ready (then n r.value))
        → behind ≡ rest p (length pre)
        → rest p (length pre) ≡ ◌>>=◌ (y file (length pre)) (λ r. ◌>>=◌ (then r.next r.value) (λ q. rest q r.next))
        → AtW (tried (y (u ++ b ∷ []) 0) (record { unit = u ++ b ∷ []; phase = p }) (λ r. then n r.value)) more
    turn pre u more b n f n_is sound waits on ready same unit =
        go (y (u ++ b ∷ []) 0) (y (whole pre (u ++ b ∷ []) more) (length pre)) refl
        (ap (λ (l : List ℕ). y l (length pre)) (sym whole_is)) (unitary pre (u ++ b ∷ []) more)
      where
        whole_is : file ≡ whole pre (u ++ b ∷ []) more
        whole_is = f ∙ snoc-whole pre u more b

        go : (x z : Judged (Read A)) → y (u ++ b ∷ []) 0 ≡ x → z ≡ y file (length pre) → Part (length pre) (length (u ++ b ∷ [])) (length (whole pre (u ++ b ∷ []) more)) x z
            → AtW (tried x (record { unit = u ++ b ∷ []; phase = p }) (λ r. then n r.value)) more
        go _ _ e q (got {v} {k} l) =
            let i : length u < k = exact y unitary u b (record { value = v; next = k }) waits e in
            let k-is : length pre + k ≡ length pre + length (u ++ b ∷ []) = omega (arith, length-append u (b ∷ [])) in
            stands pre (u ++ b ∷ []) more whole_is (then n v) (ready (record { value = v; next = k }) e)
            (same ∙ unit ∙ ap (λ j. ◌>>=◌ j (λ (r : Read A). ◌>>=◌ (then r.next r.value) (λ (q : Phase). rest q r.next))) (sym q)
            ∙ ap₂ (λ (m i : ℕ). ◌>>=◌ (then m v) (λ (q : Phase). rest q i)) (k-is ∙ sym n_is) k-is)
        go _ _ e q (bad {a} {b = c} l) = subst (λ (t : Bool). AtW (pick t (record { unit = u ++ b ∷ []; phase = p }) (record { unit = []; phase = stopped a c })) more) (sym (ne_eqb a 7 l))
            (record {
              pre = pre ++ (u ++ b ∷ []);
              file-is = whole_is ∙ sym (append_assoc pre (u ++ b ∷ []) more);
              sound = tt;
              waits = refl;
              same = same ∙ unit ∙ ap (λ j. ◌>>=◌ j (λ (r : Read A). ◌>>=◌ (then r.next r.value) (λ (q : Phase). rest q r.next))) (sym q);
            })
        go _ _ e q (cut far end) = record { pre = pre; file-is = whole_is; sound = sound; waits = on e; same = same }

    -- THE END INSIDE A UNIT
    end : (pre u : List ℕ) → file ≡ whole pre u [] → y u 0 ≡ refuse 7 0 → behind ≡ rest p (length pre)
        → rest p (length pre) ≡ ◌>>=◌ (y file (length pre)) (λ r. ◌>>=◌ (then r.next r.value) (λ q. rest q r.next)) → behind ≡ refuse 7 0
    end pre u f waits same unit =
        same ∙ unit
        ∙ ap (λ j. ◌>>=◌ j (λ (r : Read A). ◌>>=◌ (then r.next r.value) (λ (q : Phase). rest q r.next)))
        (ap (λ (l : List ℕ). y l (length pre)) f ∙ ends-in y unitary pre u waits)

  -- ---- what follows a unit is ready

  axes_some : 1 ≤ axis_count head
  axes_some = omega (arith, ap (λ (x : Header). x.axes) (numbers-same file), (header-facts file header_is).axes_some)

  rank_some : 1 ≤ rank_count head
  rank_some = omega (arith, ap (λ (x : Header). x.rank) (numbers-same file), (header-facts file header_is).rank_some)

  ready-table : (n : ℕ) (mesh : List ℕ) → Ready (to_table head n mesh)
  ready-table n mesh = go (eqb (tensor_offset head) n)
    where
      go : (b : Bool) → Ready (◌>>◌ (need b 6) (accept (in_table mesh)))
      go true = (tt, no-sizes most_words 12 13 (rank_count head) rank_some)
      go false = tt

  ready-mesh : (n : ℕ) (mesh : List ℕ) → 0 < devices mesh → Ready (after_mesh head n mesh)
  unfolding after_mesh
  ready-mesh n mesh pos = go (carries_order (edition head))
    where
      go : (carried : Bool) → Ready (mesh_then carried head n mesh)
      go true = (pos, refl)
      go false = ready-table n mesh

  ready-number : (n : ℕ) (mesh : List ℕ) (t : Numbers) (a : ℕ) → Ready (after_number head n mesh t a)
  unfolding after_number
  ready-number n mesh t a = go (ltb (t.count + 1) (devices mesh)) refl
    where
      tested : (b : Bool) → Ready (◌>>◌ (need b 19) (to_table head n mesh))
      tested true = ready-table n mesh
      tested false = tt

      go : (more : Bool) → ltb (t.count + 1) (devices mesh) ≡ more → Ready (order_then more head n mesh (counted (devices mesh) t a))
      go true e = (ltb→lt (t.count + 1) (devices mesh) (subst T (sym e) tt), refl)
      go false e = tested ((counted (devices mesh) t a).fine && not (counted (devices mesh) t a).plain)

  ready-start : (n : ℕ) (mesh sizes : List ℕ) → Ready (past_table head n mesh sizes)
  unfolding past_table
  ready-start n mesh sizes = go (eqb (sharding_offset head) n)
    where
      go : (b : Bool) → Ready (◌>>◌ (need b 6) (accept (in_the_start mesh sizes)))
      go true = (tt, no-lists (carries_replicated (edition head)) (axis_count head) (rank_count head))
      go false = tt

  ready-outermost : (mesh sizes : List ℕ) (left ran number largest : ℕ) (s : Sharding) → shard_words mesh sizes s ≤ largest
      → Ready (accept (outermost mesh sizes left ran number largest s))
  ready-outermost mesh sizes zero ran number largest s l = (tt, refl)
  ready-outermost mesh sizes (suc left) ran number largest s l = (l, item-none most_depth (length mesh) (length sizes) number [] 0 (omega arith))

  ready-steps : (n : ℕ) (mesh sizes : List ℕ) (s : Sharding) → Ready (after_start head n mesh sizes s)
  unfolding after_start
  ready-steps n mesh sizes s = go (eqb (steps_offset head) n) (judge_opening (edition head) mesh sizes s)
    where
      go : (b : Bool) (j : Judged (Unit {0})) → Ready (◌>>◌ (need b 6) (◌>>◌ j (accept (outermost mesh sizes (step_count head) 0 1 (shard_words mesh sizes s) s))))
      go true (accept t) = ready-outermost mesh sizes (step_count head) 0 1 (shard_words mesh sizes s) s (omega arith)
      go true (refuse a k) = tt
      go false j = tt

  ready-next : (mesh sizes : List ℕ) (number largest : ℕ) (s : Sharding) (frames : List Frame) (k left ran : ℕ) → shard_words mesh sizes s ≤ largest
      → Ready (after_step mesh sizes number largest s frames k left ran)
  unfolding after_step
  ready-next mesh sizes number largest s [] k left ran l = go (leb ran most_run)
    where
      go : (b : Bool) → Ready (◌>>◌ (need_at k b 43) (accept (outermost mesh sizes left ran number largest s)))
      go true = ready-outermost mesh sizes left ran number largest s l
      go false = tt
  ready-next mesh sizes number largest s (f ∷ frames) k (suc left) ran l = (l, item-none (depth_in (f ∷ frames)) (length mesh) (length sizes) number [] 0 (omega arith))
  ready-next mesh sizes number largest s (f ∷ frames) k zero ran l =
      go (same_sharding s f.sharding) (leb (f.count * ran) most_run) (after_step mesh sizes number largest s frames f.number f.behind (f.ran + f.count * ran))
      (ready-next mesh sizes number largest s frames f.number f.behind (f.ran + f.count * ran) l)
    where
      go : (a b : Bool) (j : Judged Phase) → Ready j → Ready (◌>>◌ (need_at f.number a 41) (◌>>◌ (need_at f.number b 43) j))
      go true true j r = r
      go true false j r = tt
      go false b j r = tt

  ready-item : (mesh sizes : List ℕ) (q : Standing) → shard_words mesh sizes q.sharding ≤ q.largest → (i : Item) → Ready (after_item mesh sizes q i)
  unfolding after_plain
  ready-item mesh sizes q l (opens a) = (l, item-none (most_depth - suc (length q.frames)) (length mesh) (length sizes) (q.number + 1) [] 0 (omega arith))
  ready-item mesh sizes q l (takes t) = go (judge_step mesh sizes q.number t q.sharding)
    where
      go : (j : Judged Sharding) → Ready (◌>>=◌ j (λ (s : Sharding).
          after_step mesh sizes (q.number + 1) (max q.largest (shard_words mesh sizes s)) s q.frames q.number q.behind (q.ran + 1)))
      go (accept s) = ready-next mesh sizes (q.number + 1) (max q.largest (shard_words mesh sizes s)) s q.frames q.number q.behind (q.ran + 1) (omega arith)
      go (refuse a k) = tt

  -- ---- any phase

  abbrev sizes_in : (most z o count : ℕ) → List ℕ → ℕ → Judged (Read (List ℕ))
  sizes_in most z o count f at = sizes_at most z o count at f at

  abbrev sharding_in : List ℕ → ℕ → Judged (Read Sharding)
  sharding_in f at = sharding_at (carries_replicated (edition head)) (axis_count head) (rank_count head) at f at

  abbrev item_in : (mesh sizes : List ℕ) → Standing → List ℕ → ℕ → Judged (Read Item)
  item_in mesh sizes q f at = item_read (depth_in q.frames) (length mesh) (length sizes) q.number f at

  devices_pos : (u : List ℕ) (r : Read (List ℕ)) → sizes_at most_devices 10 11 (axis_count head) 0 u 0 ≡ accept r → 0 < devices r.value
  devices_pos u r e = omega (arith, (section-facts most_devices 10 11 (axis_count head) 0 u 0 r (lit≤ tt) e).sizes.pos)

  -- the readers that the definition tries, as those that have a place for the next byte
  number-tried : (u : List ℕ) (w : Waiting) (f : ℕ → Judged Phase) → tried (number_in u) w f ≡ tried (number_at u 0) w (λ r. f r.value)
  number-tried u w f = go (leb 2 (length u))
    where
      go : (b : Bool) → tried (◌>>◌ (need b 7) (accept (u16_at u 0))) w f
          ≡ tried (◌>>◌ {B = Read ℕ} (need b 7) (accept (record { value = u16_at u 0; next = 0 + 2 }))) w (λ (r : Read ℕ). f r.value)
      go true = refl
      go false = refl

  item-tried : (mesh sizes : List ℕ) (q : Standing) (u : List ℕ)
      → step_in (is_repeat u 0) mesh sizes q u ≡ tried (item_in mesh sizes q u 0) (record { unit = u; phase = in_steps mesh sizes q }) (λ r. after_item mesh sizes q r.value)
  item-tried mesh sizes q u = go (is_repeat u 0)
    where
      w : Waiting
      w = record { unit = u; phase = in_steps mesh sizes q }

      plainly : (j : Judged (Read Step)) → tried j w (λ t. after_plain mesh sizes q t.value)
          ≡ tried (◌>>=◌ {B = Read Item} j (λ t. accept (record { value = takes t.value; next = t.next }))) w (λ r. after_item mesh sizes q r.value)
      plainly (accept t) = refl
      plainly (refuse a k) = refl

      headed : (j : Judged Head) → tried j w (after_head mesh sizes q)
          ≡ tried (◌>>=◌ {B = Read Item} (◌>>=◌ {B = Read Head} j (λ a. accept (record { value = a; next = 1 + 2 }))) (λ a. accept (record { value = opens a.value; next = a.next }))) w
          (λ r. after_item mesh sizes q r.value)
      headed (accept a) = refl
      headed (refuse a k) = refl

      go : (b : Bool) → step_in b mesh sizes q u ≡ tried (item_of (depth_in q.frames) (length mesh) (length sizes) q.number b u 0) w (λ r. after_item mesh sizes q r.value)
      go true =
          headed (head_at (depth_in q.frames) q.number u 1)
          ∙ ap (λ (j : Judged (Read Head)). tried (◌>>=◌ {B = Read Item} j (λ a. accept (record { value = opens a.value; next = a.next }))) w (λ r. after_item mesh sizes q r.value))
          (sym (head_read (depth_in q.frames) q.number u 1))
      go false = plainly (step_at (length mesh) (length sizes) q.number u 0)

  -- A BYTE IN ANY PHASE
  byte-in : (p : Phase) (u more : List ℕ) (b n : ℕ) (a : At p u (b ∷ more)) → n ≡ length a.pre + length (u ++ b ∷ []) → AtW (unit_in head n (u ++ b ∷ []) p) more
  unfolding unit_in
  byte-in in_header u more b n a e = absurd a.waits
  byte-in in_mesh u more b n a e =
      turn (sizes_in most_devices 10 11 (axis_count head)) (λ pre part rest. sizes-part pre part rest most_devices 10 11 (axis_count head) (λ q. omega (arith, q)) (λ q. omega (arith, q)))
      in_mesh (after_mesh head) a.pre u more b n a.file-is e tt a.waits (λ w. w) (λ r q. ready-mesh n r.value (devices_pos (u ++ b ∷ []) r q)) a.same (mesh-on head file (length a.pre))
  byte-in (in_the_order mesh t) u more b n a e = subst (λ (w : Waiting). AtW w more) (sym (number-tried (u ++ b ∷ []) _ _))
      (turn number_at number-part (in_the_order mesh t) (λ m. after_number head m mesh t) a.pre u more b n a.file-is e a.sound a.waits (λ w. w)
      (λ r q. ready-number n mesh t r.value) a.same (number-on head file mesh t (length a.pre) a.sound))
  byte-in (in_table mesh) u more b n a e =
      turn (sizes_in most_words 12 13 (rank_count head)) (λ pre part rest. sizes-part pre part rest most_words 12 13 (rank_count head) (λ q. omega (arith, q)) (λ q. omega (arith, q)))
      (in_table mesh) (λ m. past_table head m mesh) a.pre u more b n a.file-is e tt a.waits (λ w. w) (λ r q. ready-start n mesh r.value) a.same (table_on head file mesh (length a.pre))
  byte-in (in_the_start mesh sizes) u more b n a e =
      turn sharding_in (λ pre part rest. sharding-part pre part rest (carries_replicated (edition head)) (axis_count head) (rank_count head))
      (in_the_start mesh sizes) (λ m. after_start head m mesh sizes) a.pre u more b n a.file-is e tt a.waits (λ w. w) (λ r q. ready-steps n mesh sizes r.value) a.same
      (start-on head file mesh sizes (length a.pre))
  byte-in (in_steps mesh sizes q) u more b n a e = subst (λ (w : Waiting). AtW w more) (sym (item-tried mesh sizes q (u ++ b ∷ [])))
      (turn (item_in mesh sizes q) (λ pre part rest. item-part pre part rest (depth_in q.frames) (length mesh) (length sizes) q.number)
      (in_steps mesh sizes q) (λ m. after_item mesh sizes q) a.pre u more b n a.file-is e a.sound a.waits (λ w. w) (λ r x. ready-item mesh sizes q a.sound r.value) a.same
      (steps_on h file mesh sizes q a.sound (length a.pre)))
  byte-in (at_end mesh sizes largest s) u more b n a e = record {
    pre = a.pre ++ (u ++ b ∷ []);
    file-is = a.file-is ∙ snoc-whole a.pre u more b ∙ sym (append_assoc a.pre (u ++ b ∷ []) more);
    sound = tt;
    waits = refl;
    same = a.same ∙ rw (ne_eqb (length a.pre) (length file) (λ x. omega (arith, x, ap length a.file-is, whole_long a.pre u (b ∷ more)))) refl;
  }
  byte-in (stopped x k) u more b n a e = record {
    pre = a.pre ++ (u ++ b ∷ []);
    file-is = a.file-is ∙ snoc-whole a.pre u more b ∙ sym (append_assoc a.pre (u ++ b ∷ []) more);
    sound = tt;
    waits = refl;
    same = a.same;
  }

  -- THE END IN ANY PHASE
  end-in : (p : Phase) (u : List ℕ) → At p u [] → behind ≡ answer_in head p
  end-in in_header u a = absurd a.waits
  end-in in_mesh u a =
      end (sizes_in most_devices 10 11 (axis_count head)) (λ pre part rest. sizes-part pre part rest most_devices 10 11 (axis_count head) (λ q. omega (arith, q)) (λ q. omega (arith, q)))
      in_mesh (after_mesh head) a.pre u a.file-is a.waits a.same (mesh-on head file (length a.pre))
  end-in (in_the_order mesh t) u a =
      end number_at number-part (in_the_order mesh t) (λ m. after_number head m mesh t) a.pre u a.file-is a.waits a.same (number-on head file mesh t (length a.pre) a.sound)
  end-in (in_table mesh) u a =
      end (sizes_in most_words 12 13 (rank_count head)) (λ pre part rest. sizes-part pre part rest most_words 12 13 (rank_count head) (λ q. omega (arith, q)) (λ q. omega (arith, q)))
      (in_table mesh) (λ m. past_table head m mesh) a.pre u a.file-is a.waits a.same (table_on head file mesh (length a.pre))
  end-in (in_the_start mesh sizes) u a =
      end sharding_in (λ pre part rest. sharding-part pre part rest (carries_replicated (edition head)) (axis_count head) (rank_count head))
      (in_the_start mesh sizes) (λ m. after_start head m mesh sizes) a.pre u a.file-is a.waits a.same (start-on head file mesh sizes (length a.pre))
  end-in (in_steps mesh sizes q) u a =
      end (item_in mesh sizes q) (λ pre part rest. item-part pre part rest (depth_in q.frames) (length mesh) (length sizes) q.number)
      (in_steps mesh sizes q) (λ m. after_item mesh sizes q) a.pre u a.file-is a.waits a.same (steps_on h file mesh sizes q a.sound (length a.pre))
  end-in (at_end mesh sizes largest s) u a =
      a.same ∙ rw (eq-eqb (length a.pre) (length file) (sym (ap length a.file-is ∙ whole_long a.pre u [] ∙ omega (arith, ap length a.waits)))) refl
  end-in (stopped x k) u a = a.same

  check-behind : unpriced (check_of file) ≡ behind
  check-behind =
      check-is file ∙ ap (λ (j : Judged (Unit {0})). ◌>>◌ j (◌>>◌ (need (eqb (mesh_offset file) least_bytes) 6) (rest_of (numbers_of file) file in_mesh least_bytes))) header_is
      ∙ ap (λ (x : Header). ◌>>◌ (need (eqb x.mesh_at least_bytes) 6) (rest_of x file in_mesh least_bytes)) (sym (numbers-same file))

-- ---- a file from its header on

-- the state, its header known
abbrev knows : (head : List ℕ) → (seen : ℕ) → Waiting → State
knows head seen w = held w seen head

fed-on : (head : List ℕ) (n : ℕ) (w : Waiting) (b : ℕ) → least_bytes ≤ length head → n ≤ most_bytes
    → fed b (knows head n w) ≡ knows head (n + 1) (unit_in head (n + 1) (w.unit ++ b ∷ []) w.phase)
unfolding fed
fed-on head n w b long few = rw (le-ltb most_bytes n few, le-ltb (length head) least_bytes long) refl

module _ (file : List ℕ) (few : length file ≤ most_bytes) where
  abbrev first : List ℕ
  first = take least_bytes file

  -- whatever is held: 1 to 5 go first
  walk_refused : {a k : ℕ} → judge_header file ≡ refuse a k → least_bytes ≤ length first → (rest : List ℕ) (n : ℕ) (w : Waiting) → n + length rest ≡ length file
      → end_of (pushed (knows first n w) rest) ≡ refuse a k
  unfolding end_of
  walk_refused e l [] n w c =
      let z : n ≡ length file = omega (arith, c) in
      ap (λ (j : Judged (Unit {0})). ◌>>◌ j (answer_in first w.phase)) (ap (λ (m : ℕ). judge_header (headed first m)) z ∙ header-same file ∙ e)
  walk_refused e l (b ∷ rest) n w c =
      ap (λ (s : State). end_of (pushed s rest)) (fed-on first n w b l (omega arith)) ∙ walk_refused e l rest (n + 1) (unit_in first (n + 1) (w.unit ++ b ∷ []) w.phase) (omega arith)

  -- the header is judged: the rest as it comes
  walk : (e : judge_header file ≡ accept tt) → least_bytes ≤ length first → (rest : List ℕ) (n : ℕ) (w : Waiting) → n + length rest ≡ length file → AtW file e w rest
      → end_of (pushed (knows first n w) rest) ≡ unpriced (check_of file)
  unfolding end_of
  walk e l [] n w c a =
      let z : n ≡ length file = omega (arith, c) in
      ap (λ (j : Judged (Unit {0})). ◌>>◌ j (answer_in first w.phase)) (ap (λ (m : ℕ). judge_header (headed first m)) z ∙ header-same file ∙ e)
      ∙ sym (end-in file e w.phase w.unit a) ∙ sym (check-behind file e)
  walk e l (b ∷ rest) n w c a =
      ap (λ (s : State). end_of (pushed s rest)) (fed-on first n w b l (omega arith))
      ∙ walk e l rest (n + 1) (unit_in first (n + 1) (w.unit ++ b ∷ []) w.phase) (omega arith)
      (byte-in file e w.phase w.unit rest b (n + 1) a
      (omega (arith, ap length a.file-is, whole_long a.pre w.unit (b ∷ rest), length-append w.unit (b ∷ []), c)))

  -- the header is whole
  header_read : (bytes rest : List ℕ) → file ≡ bytes ++ rest → length bytes ≡ least_bytes → end_of (pushed (knows bytes least_bytes (turned (after_header bytes))) rest) ≡ unpriced (check_of file)
  unfolding after_header
  header_read bytes rest f l = go (judge_header file) refl
    where
      first_is : bytes ≡ first
      first_is = sym (ap (take least_bytes) f ∙ take_at bytes rest least_bytes l)

      long : least_bytes ≤ length first
      long = omega (arith, ap length first_is)

      count : least_bytes + length rest ≡ length file
      count = omega (arith, ap length f, length-append bytes rest)

      in-mesh : (e : judge_header file ≡ accept tt) (b : Bool) → Ready file e (◌>>◌ (need b 6) (accept in_mesh))
      in-mesh e true = (tt, no-sizes most_devices 10 11 (axis_count first) (axes_some file e))
      in-mesh e false = tt

      ready : (e : judge_header file ≡ accept tt) → AtW file e (turned (after_header first)) rest
      ready e =
          let j : judge_header (headed first (total_length first)) ≡ accept tt =
          ap (λ (m : ℕ). judge_header (headed first m)) (total-same file ∙ total_is file e) ∙ header-same file ∙ e in
          let k : after_header first ≡ ◌>>◌ (need (eqb (mesh_offset first) least_bytes) 6) (accept in_mesh) =
          ap (λ (i : Judged (Unit {0})). ◌>>◌ i (◌>>◌ (need (eqb (mesh_offset first) least_bytes) 6) (accept in_mesh))) j in
          let z : least_bytes ≡ length first + 0 = omega (arith, ap length first_is) in
          let g : file ≡ first ++ rest = f ∙ ap (λ (x : List ℕ). x ++ rest) first_is in
          subst (λ (i : Judged Phase). AtW file e (turned i) rest) (sym k)
          (stands file e first [] rest g (◌>>◌ (need (eqb (mesh_offset first) least_bytes) 6) (accept in_mesh)) (in-mesh e (eqb (mesh_offset first) least_bytes))
          (ap (λ (n : ℕ). ◌>>◌ (need (eqb (mesh_offset first) least_bytes) 6) (rest_of (numbers_of first) file in_mesh n)) z
          ∙ sym (after-need (eqb (mesh_offset first) least_bytes) 6 (accept in_mesh) (λ p. rest_of (numbers_of first) file p (length first + 0)))))

      go : (j : Judged (Unit {0})) → judge_header file ≡ j → end_of (pushed (knows bytes least_bytes (turned (after_header bytes))) rest) ≡ unpriced (check_of file)
      go (accept t) e = ap (λ (x : List ℕ). end_of (pushed (knows x least_bytes (turned (after_header x))) rest)) first_is ∙ walk e long rest least_bytes (turned (after_header first)) count (ready e)
      go (refuse a k) e =
          ap (λ (x : List ℕ). end_of (pushed (knows x least_bytes (turned (after_header x))) rest)) first_is ∙ walk_refused e long rest least_bytes (turned (after_header first)) count
          ∙ sym (check-stops file e)

  -- bytes of the header
  abbrev begins : List ℕ → State
  begins bytes = record { over = false; seen = length bytes; head = bytes; unit = []; phase = in_header }

  walk-header : (rest bytes : List ℕ) → file ≡ bytes ++ rest → length bytes < least_bytes → end_of (pushed (begins bytes) rest) ≡ unpriced (check_of file)
  unfolding end_of fed unit_in
  walk-header [] bytes f l =
      let z : length file ≡ length bytes = ap length (f ∙ append-nil bytes) in
      ap (λ (j : Judged (Unit {0})). ◌>>◌ {B = CheckAnswer} j (refuse 7 0)) (header-short bytes (length bytes) l) ∙ sym (check-short file (omega (arith, z)))
  walk-header (b ∷ rest) bytes f l = go (dec_lt (length (bytes ++ b ∷ [])) least_bytes) (walk-header rest (bytes ++ b ∷ []) g)
    where
      g : file ≡ (bytes ++ b ∷ []) ++ rest
      g = f ∙ sym (append_assoc bytes (b ∷ []) rest)

      n_is : length bytes + 1 ≡ length (bytes ++ b ∷ [])
      n_is = sym (length-append bytes (b ∷ []))

      fed-is : fed b (begins bytes) ≡ held (tried (need (leb least_bytes (length (bytes ++ b ∷ []))) 7) (record { unit = []; phase = in_header }) (λ t. after_header (bytes ++ b ∷ [])))
          (length (bytes ++ b ∷ [])) (bytes ++ b ∷ [])
      fed-is = rw (le-ltb most_bytes (length bytes) (omega arith), lt-ltb (length bytes) least_bytes l, n_is) refl

      go : Dec (length (bytes ++ b ∷ []) < least_bytes) → (length (bytes ++ b ∷ []) < least_bytes → end_of (pushed (begins (bytes ++ b ∷ [])) rest) ≡ unpriced (check_of file))
          → end_of (pushed (begins bytes) (b ∷ rest)) ≡ unpriced (check_of file)
      go (yes s) on =
          ap (λ (s : State). end_of (pushed s rest)) (fed-is ∙ ap (λ (t : Bool). held (tried (need t 7) (record { unit = []; phase = in_header }) (λ t. after_header (bytes ++ b ∷ [])))
          (length (bytes ++ b ∷ [])) (bytes ++ b ∷ [])) (lt-leb least_bytes (length (bytes ++ b ∷ [])) s))
          ∙ on s
      go (no d) on =
          let m : length (bytes ++ b ∷ []) ≡ least_bytes = omega (arith, d, n_is) in
          ap (λ (s : State). end_of (pushed s rest)) (fed-is ∙ ap (λ (t : Bool). held (tried (need t 7) (record { unit = []; phase = in_header }) (λ t. after_header (bytes ++ b ∷ [])))
          (length (bytes ++ b ∷ [])) (bytes ++ b ∷ [])) (le-leb least_bytes (length (bytes ++ b ∷ [])) (omega (arith, d))))
          ∙ ap (λ (n : ℕ). end_of (pushed (knows (bytes ++ b ∷ []) n (turned (after_header (bytes ++ b ∷ [])))) rest)) m
          ∙ header_read (bytes ++ b ∷ []) rest g m

-- ---- a file of any length

-- past the limit the count stays, and 2 goes first
walk-long : (rest : List ℕ) (n : ℕ) (head : List ℕ) (w : Waiting) → most_bytes < n + length rest → end_of (pushed (held w n head) rest) ≡ refuse 2 0
unfolding end_of fed
walk-long [] n head w l = ap (λ (j : Judged (Unit {0})). ◌>>◌ j (answer_in head w.phase)) (header-long head n (omega arith))
walk-long (b ∷ rest) n head w l = go (dec_lt most_bytes n) (walk-long rest n head w)
    (walk-long rest (n + 1) (head_from head b) (unit_in (head_from head b) (n + 1) (w.unit ++ b ∷ []) w.phase))
  where
    go : Dec (most_bytes < n) → (most_bytes < n + length rest → end_of (pushed (held w n head) rest) ≡ refuse 2 0)
        → (most_bytes < n + 1 + length rest → end_of (pushed (held (unit_in (head_from head b) (n + 1) (w.unit ++ b ∷ []) w.phase) (n + 1) (head_from head b)) rest) ≡ refuse 2 0)
        → end_of (pushed (fed_if (ltb most_bytes n) b (held w n head)) rest) ≡ refuse 2 0
    go (yes s) stay on = ap (λ (t : Bool). end_of (pushed (fed_if t b (held w n head)) rest)) (lt-ltb most_bytes n s) ∙ stay (omega arith)
    go (no d) stay on = ap (λ (t : Bool). end_of (pushed (fed_if t b (held w n head)) rest)) (le-ltb most_bytes n (omega (arith, d))) ∙ on (omega arith)

answers : (bytes : List ℕ) → end_of (state_after bytes) ≡ unpriced (check_of bytes)
answers bytes = go (dec_lt most_bytes (length bytes))
  where
    go : Dec (most_bytes < length bytes) → end_of (state_after bytes) ≡ unpriced (check_of bytes)
    go (yes l) = walk-long bytes 0 [] (record { unit = []; phase = in_header }) (omega arith) ∙ sym (check-long bytes l)
    go (no d) = walk-header bytes (omega (arith, d)) bytes [] refl (omega arith)

-- after the end nothing changes
after_end : (s : State) (piece : List ℕ) → pushed (closed s) piece ≡ closed s
unfolding fed
after_end s [] = refl
after_end s (b ∷ piece) = after_end s piece

-- THE SLOW LINE
pub slow-line : SlowLine
unfolding end_of
slow-line = record {
  answers = answers;
  cuts = λ s a b. sym (in-turn-append fed a b s);
  empty = λ s. refl;
  after_end = after_end;
  again = λ s. refl;
  closed_twice = λ s. refl;
}
