-- EVERY STATE FROM THE OPENING CALL IS SOUND (`always-sound`). Assumes nothing.
use Prim.Native.Nat.{ℕ, zero, suc, ◌+◌, ◌*◌, ◌≤◌, ◌<◌, max}
use mathlib.Core.Path.{◌≡◌, refl, sym, ap, ◌∙◌, subst}
use mathlib.Core.Bool.{Bool, true, false, not, ◌&&◌}
use mathlib.Core.List.{List, [], ◌∷◌, ◌++◌}
use native.Mathlib.Omega.{arith}
use native.Mathlib.Decide.{dec_lt, ℕ_discrete}
use borrow.Author.Tests.{lt-ltb, le-ltb, le-leb, lt-leb, eq-eqb, ne_eqb}
use lib.ListN.{length, length-set, length-append, length-replicate}
use lib.Dec.{T, ltb, leb, eqb, ltb→lt, leb→le, lit≤, lit<}
use Rattle.rules.specs.Lists.{pick}
use Rattle.rules.specs.Mesh.{devices}
use Rattle.rules.specs.Limits.{most_devices, most_words, most_run, most_depth, least_bytes, most_bytes}
use Rattle.rules.specs.Sharding.{Sharding, IsSharding}
use Rattle.rules.specs.Collectives.{Step}
use Rattle.rules.specs.Refusals.{Judged, accept, refuse, ◌>>=◌, ◌>>◌, need, need_at}
use Rattle.rules.specs.PlanFile.{u16_at, edition, axis_count, rank_count, step_count, mesh_offset, tensor_offset, sharding_offset, steps_offset, total_length}
use Rattle.rules.specs.PlanFile.{judge_header, sizes_at, carries_order, carries_replicated, sharding_at, judge_start, step_at, judge_step, same_sharding, is_repeat}
use Rattle.laws.proofs.Judging.{never}
use Rattle.laws.proofs.Steps.{facts, after-sharding}
use Rattle.laws.proofs.Accepted.{SizesFacts, section-facts, start-sharding}
use Rattle.laws.proofs.Room.{shard-words}
use Rattle.opening.specs.Opening.{judge_opening}
use Rattle.blocks.specs.Blocks.{Head, head_at, shard_words}
use Rattle.blocks.proofs.Heads.{head-facts}
use Rattle.units.specs.Units.{
  Frame,
  Standing,
  Numbers,
  Phase,
  in_header,
  in_mesh,
  in_the_order,
  in_table,
  in_the_start,
  in_steps,
  at_end,
  stopped,
  State,
  counted,
  outermost,
  headed,
  to_table,
  mesh_then,
  order_then,
  after_header,
  after_mesh,
  after_number,
  past_table,
  after_start,
  after_step,
  after_plain,
  after_head,
  depth_in,
  Waiting,
  turned,
  tried,
  number_in,
  step_in,
  unit_in,
  head_from,
  held,
  fed,
  fed_if,
  begun,
  pushed,
}
use Rattle.units.specs.Sound.{most_unit, Meshed, Tabled, Sharded, Framed, Going, SoundIn, Sound, AlwaysSound}
use Rattle.units.proofs.Checks.{headed-facts}
use Rattle.units.proofs.Full.{sizes-short, sharding-short, step-short, head-short}

-- what follows a unit is sound, `seen` bytes with it
abbrev After : (head : List ℕ) → (seen : ℕ) → Judged Phase → Type 0
After head seen (accept p) = SoundIn head seen p
After head seen (refuse a k) = Unit {0}

pub framed-more : (m n : ℕ) (frames : List Frame) → m ≤ n → Framed m frames → Framed n frames
framed-more m n [] l f = tt
framed-more m n (g ∷ frames) l f = (omega (arith, f.0), f.1, f.2)

-- the header is whole
abbrev Past : Phase → Type 0
Past in_header = ⊥
Past in_mesh = Unit {0}
Past (in_the_order mesh t) = Unit {0}
Past (in_table mesh) = Unit {0}
Past (in_the_start mesh sizes) = Unit {0}
Past (in_steps mesh sizes q) = Unit {0}
Past (at_end mesh sizes largest s) = Unit {0}
Past (stopped a k) = Unit {0}

-- a phase and the bytes of its unit, of which the last is the newest
record Held (head : List ℕ) (seen : ℕ) (w : Waiting) : Type 0 where
  before : ℕ
  short : length w.unit < most_unit
  bytes : before + length w.unit ≤ seen
  phase : SoundIn head before w.phase

module _ (head : List ℕ) (seen : ℕ) where
  turned-held : (j : Judged Phase) → After head seen j → Held head seen (turned j)
  turned-held (accept p) a = record { before = seen; short = lit< tt; bytes = omega arith; phase = a }
  turned-held (refuse x k) a = record { before = seen; short = lit< tt; bytes = omega arith; phase = tt }

  tried-held : {A : Type 0} (j : Judged A) (more : Waiting) (then : A → Judged Phase) → ((b : ℕ) → j ≡ refuse 7 b → Held head seen more)
      → ((v : A) → j ≡ accept v → After head seen (then v)) → Held head seen (tried j more then)
  tried-held (accept v) more then wait go = turned-held (then v) (go v refl)
  tried-held (refuse a b) more then wait go = by (ℕ_discrete a 7)
    where
      by : Dec (a ≡ 7) → Held head seen (pick (eqb a 7) more (record { unit = []; phase = stopped a b }))
      by (yes e) = subst (λ (t : Bool). Held head seen (pick t more (record { unit = []; phase = stopped a b }))) (sym (eq-eqb a 7 e)) (wait b (ap (λ (n : ℕ). refuse n b) e))
      by (no d) = subst (λ (t : Bool). Held head seen (pick t more (record { unit = []; phase = stopped a b }))) (sym (ne_eqb a 7 d))
          (record { before = seen; short = lit< tt; bytes = omega arith; phase = tt })

  -- ---- what follows each unit

  after_table : (mesh : List ℕ) → Meshed head mesh → After head seen (to_table head seen mesh)
  after_table mesh m = go (eqb (tensor_offset head) seen)
    where
      go : (b : Bool) → After head seen (◌>>◌ (need b 6) (accept (in_table mesh)))
      go true = m
      go false = tt

  after-mesh : (mesh : List ℕ) → Meshed head mesh → After head seen (after_mesh head seen mesh)
  unfolding after_mesh
  after-mesh mesh m = go (carries_order (edition head))
    where
      go : (carried : Bool) → After head seen (mesh_then carried head seen mesh)
      go true = (m, omega (arith, m.sizes.pos), length-replicate most_devices false)
      go false = after_table mesh m

  after-number : (mesh : List ℕ) (t : Numbers) (a : ℕ) → Meshed head mesh → length t.marks ≡ most_devices → After head seen (after_number head seen mesh t a)
  unfolding after_number
  after-number mesh t a m l = go (ltb (t.count + 1) (devices mesh)) refl
    where
      tested : (b : Bool) → After head seen (◌>>◌ (need b 19) (to_table head seen mesh))
      tested true = after_table mesh m
      tested false = tt

      go : (more : Bool) → ltb (t.count + 1) (devices mesh) ≡ more → After head seen (order_then more head seen mesh (counted (devices mesh) t a))
      go true e = (m, ltb→lt (t.count + 1) (devices mesh) (subst T (sym e) tt), length-set t.marks a true ∙ l)
      go false e = tested ((counted (devices mesh) t a).fine && not (counted (devices mesh) t a).plain)

  after-start : (mesh sizes : List ℕ) → Tabled head mesh sizes → After head seen (past_table head seen mesh sizes)
  unfolding past_table
  after-start mesh sizes t = go (eqb (sharding_offset head) seen)
    where
      go : (b : Bool) → After head seen (◌>>◌ (need b 6) (accept (in_the_start mesh sizes)))
      go true = t
      go false = tt

  module _ (mesh sizes : List ℕ) (t : Tabled head mesh sizes) where
    after-outermost : (left ran number largest : ℕ) (s : Sharding) → Sharded mesh sizes largest s → number ≤ seen → ran ≤ number * most_run
        → SoundIn head seen (outermost mesh sizes left ran number largest s)
    after-outermost zero ran number largest s h n r = (t, h)
    after-outermost (suc behind) ran number largest s h n r = (t, record { sharded = h; deep = omega arith; number_few = n; ran_few = r; framed = tt })

    after-steps : (s : Sharding) → 1 ≤ seen → After head seen (after_start head seen mesh sizes s)
    unfolding after_start judge_opening
    after-steps s l = go (eqb (steps_offset head) seen) (judge_start mesh sizes s) refl _
      where
        go : (b : Bool) (j : Judged (Unit {0})) → judge_start mesh sizes s ≡ j → (c : Judged (Unit {0}))
            → After head seen (◌>>◌ (need b 6) (◌>>◌ (◌>>◌ j c) (accept (outermost mesh sizes (step_count head) 0 1 (shard_words mesh sizes s) s))))
        go false j e c = tt
        go true (refuse a k) e c = tt
        go true (accept u) e (refuse a k) = tt
        go true (accept u) e (accept v) =
            let i : IsSharding mesh sizes s = start-sharding mesh sizes s e in
            after-outermost (step_count head) 0 1 (shard_words mesh sizes s) s
            (record { is = i; counted = omega arith; few = (shard-words mesh sizes t.within s i).words_few }) l (omega arith)

    after_next : (number largest : ℕ) (s : Sharding) (frames : List Frame) (k left ran : ℕ) → Sharded mesh sizes largest s → number ≤ seen → length frames ≤ most_depth
        → ran ≤ number * most_run → Framed number frames → After head seen (after_step mesh sizes number largest s frames k left ran)
    unfolding after_step
    after_next number largest s [] k left ran h n d r f = go (leb ran most_run)
      where
        go : (b : Bool) → After head seen (◌>>◌ (need_at k b 43) (accept (outermost mesh sizes left ran number largest s)))
        go true = after-outermost left ran number largest s h n r
        go false = tt
    after_next number largest s (f ∷ frames) k (suc behind) ran h n d r g = (t, record { sharded = h; deep = d; number_few = n; ran_few = r; framed = g })
    after_next number largest s (f ∷ frames) k zero ran h n d r g =
        go (same_sharding s f.sharding) (leb (f.count * ran) most_run) refl
        (λ few. after_next number largest s frames f.number f.behind (f.ran + f.count * ran) h n (omega arith) (omega (arith, few, g.0, g.1)) (framed-more f.number number frames (omega (arith, g.0)) g.2))
      where
        go : (a b : Bool) → leb (f.count * ran) most_run ≡ b
            → (f.count * ran ≤ most_run → After head seen (after_step mesh sizes number largest s frames f.number f.behind (f.ran + f.count * ran)))
            → After head seen (◌>>◌ (need_at f.number a 41) (◌>>◌ (need_at f.number b 43)
            (after_step mesh sizes number largest s frames f.number f.behind (f.ran + f.count * ran))))
        go false b e on = tt
        go true false e on = tt
        go true true e on = on (leb→le (f.count * ran) most_run (subst T (sym e) tt))

    module _ (q : Standing) (before : ℕ) (g : Going before mesh sizes q) (later : before < seen) where
      after-plain : (x : Step) → After head seen (after_plain mesh sizes q x)
      unfolding after_plain
      after-plain x = go (judge_step mesh sizes q.number x q.sharding) refl
        where
          go : (j : Judged Sharding) → judge_step mesh sizes q.number x q.sharding ≡ j → After head seen (◌>>=◌ j (λ (s : Sharding).
              after_step mesh sizes (q.number + 1) (max q.largest (shard_words mesh sizes s)) s q.frames q.number q.behind (q.ran + 1)))
          go (refuse a k) e = tt
          go (accept s) e =
              let f = facts mesh sizes q.number x q.sharding s e in
              let i : IsSharding mesh sizes s =
              subst (IsSharding mesh sizes) f.1 (after-sharding mesh sizes t.within.sizes_pos x q.sharding g.sharded.is f.0) in
              after_next (q.number + 1) (max q.largest (shard_words mesh sizes s)) s q.frames q.number q.behind (q.ran + 1)
              (record { is = i; counted = omega arith; few = omega (arith, g.sharded.few, (shard-words mesh sizes t.within s i).words_few) })
              (omega (arith, g.number_few)) g.deep (omega (arith, g.ran_few)) (framed-more q.number (q.number + 1) q.frames (omega arith) g.framed)

      after-head : (a : Head) → length q.frames < most_depth → After head seen (after_head mesh sizes q a)
      after-head a d = (
        t,
        record {
          sharded = g.sharded;
          deep = omega (arith, d);
          number_few = omega (arith, g.number_few);
          ran_few = omega arith;
          framed = (omega arith, g.ran_few, g.framed);
        },
      )

  -- ---- a byte

  number_short : (u : List ℕ) {b : ℕ} → number_in u ≡ refuse 7 b → length u < most_unit
  number_short u {b} e = go (dec_lt (length u) 2)
    where
      go : Dec (length u < 2) → length u < most_unit
      go (yes l) = omega (arith, l)
      go (no d) =
          let a : number_in u ≡ accept (u16_at u 0) = simp (le-leb 2 (length u) (omega (arith, d))) in
          absurd (never (sym (sym a ∙ e)))

  tabled : (mesh sizes : List ℕ) → Meshed head mesh → length sizes ≡ rank_count head → SizesFacts most_words 1 sizes → Tabled head mesh sizes
  tabled mesh sizes m l f = record {
    meshed = m;
    many = l;
    within = record {
      axes_some = omega (arith, m.many, m.known.axes_some);
      axes_few = omega (arith, m.many, m.known.axes_few);
      sizes_pos = m.sizes.each_pos;
      sizes_few = m.sizes.each_few;
      devices_pos = omega (arith, m.sizes.pos);
      devices_few = omega (arith, m.sizes.few);
      rank_some = omega (arith, l, m.known.rank_some);
      rank_few = omega (arith, l, m.known.rank_few);
      words_pos = omega (arith, f.pos);
      words_few = omega (arith, f.few);
    };
  }

  -- the unit with its newest byte, which is not whole
  waits : (p : Phase) (u : List ℕ) (before : ℕ) → length u < most_unit → before + length u ≤ seen → SoundIn head before p → Held head seen (record { unit = u; phase = p })
  waits p u before l b h = record { before = before; short = l; bytes = b; phase = h }

  unit-held : (p : Phase) (u : List ℕ) (before : ℕ) → 0 < length u → before + length u ≤ seen → SoundIn head before p → Past p → Held head seen (unit_in head seen u p)
  unfolding unit_in
  unit-held in_header u before s b h n = absurd n
  unit-held in_mesh u before s b h n =
      tried-held (sizes_at most_devices 10 11 (axis_count head) 0 u 0) _ _ (λ x e. waits in_mesh u before (sizes-short most_devices 10 11 (axis_count head) u h.axes_few (λ q. omega (arith, q)) (λ q. omega (arith, q)) e) b h)
      (λ r e. let f = section-facts most_devices 10 11 (axis_count head) 0 u 0 r (lit≤ tt) e in after-mesh r.value (record { known = h; many = f.many; sizes = f.sizes }))
  unit-held (in_the_order mesh t) u before s b h n =
      tried-held (number_in u) _ _ (λ x e. waits (in_the_order mesh t) u before (number_short u e) b h) (λ a e. after-number mesh t a h.0 h.2)
  unit-held (in_table mesh) u before s b h n =
      tried-held (sizes_at most_words 12 13 (rank_count head) 0 u 0) _ _ (λ x e. waits (in_table mesh) u before (sizes-short most_words 12 13 (rank_count head) u (omega (arith, h.known.rank_few)) (λ q. omega (arith, q)) (λ q. omega (arith, q)) e) b h)
      (λ r e. let f = section-facts most_words 12 13 (rank_count head) 0 u 0 r (lit≤ tt) e in after-start mesh r.value (tabled mesh r.value h f.many f.sizes))
  unit-held (in_the_start mesh sizes) u before s b h n =
      tried-held (sharding_at (carries_replicated (edition head)) (axis_count head) (rank_count head) 0 u 0) _ _
      (λ x e. waits (in_the_start mesh sizes) u before (sharding-short (carries_replicated (edition head)) (axis_count head) (rank_count head) u h.meshed.known.axes_few h.meshed.known.rank_few e) b h)
      (λ r e. after-steps mesh sizes h r.value (omega arith))
  unit-held (in_steps mesh sizes q) u before s b h n = go (is_repeat u 0)
    where
      go : (r : Bool) → Held head seen (step_in r mesh sizes q u)
      go true =
          tried-held (head_at (depth_in q.frames) q.number u 1) _ _ (λ x e. waits (in_steps mesh sizes q) u before (head-short (depth_in q.frames) q.number u e) b h)
          (λ a e. after-head mesh sizes h.0 q before h.1 (omega arith) a (omega (arith, (head-facts (depth_in q.frames) q.number u 1 e).allowed)))
      go false =
          tried-held (step_at (length mesh) (length sizes) q.number u 0) _ _
          (λ x e. waits (in_steps mesh sizes q) u before (step-short (length mesh) (length sizes) q.number u h.0.within.axes_few h.0.within.rank_few e) b h)
          (λ r e. after-plain mesh sizes h.0 q before h.1 (omega arith) r.value)
  unit-held (at_end mesh sizes largest x) u before s b h n = record { before = seen; short = lit< tt; bytes = omega arith; phase = tt }
  unit-held (stopped a k) u before s b h n = record { before = seen; short = lit< tt; bytes = omega arith; phase = tt }

-- ---- the state

-- the header's last byte
after-known : (head : List ℕ) (seen : ℕ) → length head ≡ least_bytes → After head seen (after_header head)
unfolding after_header
after-known head seen l = go (judge_header (headed head (total_length head))) refl (eqb (mesh_offset head) least_bytes)
  where
    go : (j : Judged (Unit {0})) → judge_header (headed head (total_length head)) ≡ j → (b : Bool) → After head seen (◌>>◌ j (◌>>◌ (need b 6) (accept in_mesh)))
    go (refuse a k) e b = tt
    go (accept t) e false = tt
    go (accept t) e true =
        let f = headed-facts head l e in
        record { long = l; axes_some = f.0; axes_few = f.1; rank_some = f.2; rank_few = f.3; steps_few = f.4 }

sound-begun : Sound begun
sound-begun = record { before = 0; seen_few = omega arith; unit_few = lit< tt; bytes = omega arith; phase = lit< tt; head_few = omega arith }

module _ (unit : List ℕ) (seen before b : ℕ) (few : seen ≤ most_bytes) (bytes : before + length unit ≤ seen) where
  abbrev next : (head : List ℕ) → Phase → State
  next head p = held (unit_in head (seen + 1) (unit ++ b ∷ []) p) (seen + 1) head

  sound-held : (head : List ℕ) (w : Waiting) → length head ≤ least_bytes → Held head (seen + 1) w → Sound (held w (seen + 1) head)
  sound-held head w l h = record { before = h.before; seen_few = omega arith; unit_few = h.short; bytes = h.bytes; phase = h.phase; head_few = l }

  sound-past : (head : List ℕ) (p : Phase) → length head ≤ least_bytes → SoundIn head before p → Past p → Sound (next head p)
  sound-past head p l h n =
      sound-held head (unit_in head (seen + 1) (unit ++ b ∷ []) p) l
      (unit-held head (seen + 1) p (unit ++ b ∷ []) before (omega (arith, length-append unit (b ∷ []))) (omega (arith, length-append unit (b ∷ []))) h n)

  -- the header is whole, and stays
  sound-known : (head : List ℕ) (p : Phase) → length head ≡ least_bytes → SoundIn head before p → Past p → Sound (next (head_from head b) p)
  sound-known head p l h n =
      subst (λ (x : List ℕ). Sound (next x p)) (sym (ap (λ (t : Bool). pick t (head ++ b ∷ []) head) (le-ltb (length head) least_bytes (omega (arith, l)))))
      (sound-past head p (omega (arith, l)) h n)

  head_in : (head : List ℕ) → length head ≤ least_bytes → length (head_from head b) ≤ least_bytes
  head_in head l = go (dec_lt (length head) least_bytes)
    where
      go : Dec (length head < least_bytes) → length (head_from head b) ≤ least_bytes
      go (yes m) = rw (lt-ltb (length head) least_bytes m) (omega (arith, length-append head (b ∷ [])))
      go (no d) = rw (le-ltb (length head) least_bytes (omega (arith, d))) l

  sound-header : (head : List ℕ) → length head < least_bytes → Sound (next (head_from head b) in_header)
  unfolding unit_in
  sound-header head l = subst (λ (t : Bool). Sound (next (pick t (head ++ b ∷ []) head) in_header)) (sym (lt-ltb (length head) least_bytes l)) (go (dec_lt (length (head ++ b ∷ [])) least_bytes))
    where
      go : Dec (length (head ++ b ∷ []) < least_bytes) → Sound (next (head ++ b ∷ []) in_header)
      go (yes m) = subst (λ (t : Bool). Sound (held (tried (need t 7) (record { unit = []; phase = in_header }) (λ x. after_header (head ++ b ∷ []))) (seen + 1) (head ++ b ∷ [])))
          (sym (lt-leb least_bytes (length (head ++ b ∷ [])) m))
          (sound-held (head ++ b ∷ []) (record { unit = []; phase = in_header }) (omega (arith, m)) (record { before = 0; short = lit< tt; bytes = omega arith; phase = m }))
      go (no d) =
          let e : length (head ++ b ∷ []) ≡ least_bytes = omega (arith, d, length-append head (b ∷ [])) in
          subst (λ (t : Bool). Sound (held (tried (need t 7) (record { unit = []; phase = in_header }) (λ x. after_header (head ++ b ∷ []))) (seen + 1) (head ++ b ∷ [])))
          (sym (le-leb least_bytes (length (head ++ b ∷ [])) (omega (arith, d))))
          (sound-held (head ++ b ∷ []) (turned (after_header (head ++ b ∷ []))) (omega (arith, e))
          (turned-held (head ++ b ∷ []) (seen + 1) (after_header (head ++ b ∷ [])) (after-known (head ++ b ∷ []) (seen + 1) e)))

  sound-next : (head : List ℕ) (p : Phase) → length head ≤ least_bytes → SoundIn head before p → Sound (next (head_from head b) p)
  sound-next head in_header l h = sound-header head h
  sound-next head in_mesh l h = sound-known head in_mesh h.long h tt
  sound-next head (in_the_order mesh t) l h = sound-known head (in_the_order mesh t) h.0.known.long h tt
  sound-next head (in_table mesh) l h = sound-known head (in_table mesh) h.known.long h tt
  sound-next head (in_the_start mesh sizes) l h = sound-known head (in_the_start mesh sizes) h.meshed.known.long h tt
  sound-next head (in_steps mesh sizes q) l h = sound-known head (in_steps mesh sizes q) h.0.meshed.known.long h tt
  sound-next head (at_end mesh sizes largest s) l h = sound-known head (at_end mesh sizes largest s) h.0.meshed.known.long h tt
  sound-next head (stopped a k) l h = sound-past (head_from head b) (stopped a k) (head_in head l) tt tt

-- A BYTE KEEPS A STATE SOUND, whether it came from the opening call or not
pub sound-fed : (b : ℕ) (s : State) → Sound s → Sound (fed b s)
unfolding fed
sound-fed b s h = go s.over refl (dec_lt most_bytes s.seen)
  where
    go : (over : Bool) → s.over ≡ over → Dec (most_bytes < s.seen) → Sound (fed_if (pick over true (ltb most_bytes s.seen)) b s)
    go true e d = h
    go false e (yes l) = subst (λ (t : Bool). Sound (fed_if t b s)) (sym (lt-ltb most_bytes s.seen l)) h
    go false e (no d) = subst (λ (t : Bool). Sound (fed_if t b s)) (sym (le-ltb most_bytes s.seen (omega (arith, d))))
        (sound-next s.unit s.seen h.before b (omega (arith, d)) h.bytes s.head s.phase h.head_few h.phase)

pub sound-pushed : (piece : List ℕ) (s : State) → Sound s → Sound (pushed s piece)
sound-pushed [] s h = h
sound-pushed (b ∷ piece) s h = sound-pushed piece (fed b s) (sound-fed b s h)

-- EVERY STATE FROM THE OPENING CALL IS SOUND
pub always-sound : AlwaysSound
always-sound bytes = sound-pushed bytes begun sound-begun
