-- Laws of the whole file: the edition, where the steps begin, and the header that is stored last (`file-put`). Assumes nothing.
use Prim.Native.Nat.{ℕ, suc, ◌+◌, ◌*◌, ◌≤◌, ◌<◌}
use mathlib.Core.Bool.{Bool, true, false}
use mathlib.Core.Path.{◌≡◌, refl, sym, ap, ap₂, ◌∙◌}
use mathlib.Core.List.{List, [], ◌∷◌, ◌++◌, append_assoc}
use native.Mathlib.Omega.{arith}
use native.Mathlib.Nat.{add-zero}
use lib.Dec.{leb}
use lib.ListN.{length, set, drop, length-append}
use lib.Seq.{sets, sets-eq, set_comm}
use Rattle.rules.specs.Lists.{pick}
use Rattle.rules.specs.Limits.{most_axes, most_dims, least_bytes}
use Rattle.rules.specs.Sharding.{Sharding}
use Rattle.rules.specs.PlanFile.{some}
use Rattle.types.specs.Types.{axes_of}
use Rattle.types.specs.declared.Sharding as code
use Rattle.records.specs.Records.{
  Records,
  outermost,
  u16s_bytes,
  lists_bytes,
  list_bytes,
  edition_of,
  replicated_bytes,
  sharding_bytes,
  steps_bytes,
  steps_start,
  file_length,
  header,
  file_of,
}
use Rattle.records.specs.Forms.{list_given, dims_given, sharding_given, steps_given, records_given}
use Rattle.records.proofs.Written.{length-u16s}
use Rattle.records.specs.RoundTrip.{ShortSharding}
use Rattle.encode.specs.Putting.{Put, Encodable, Writable, front_bytes, header_of}
use Rattle.encode.proofs.Puts.{put_both}
use Rattle.encode.proofs.Given.{list-given, lists-few}

-- ---- the edition

abbrev edition_by : (order replicated : List ℕ) → ℕ
edition_by order replicated = pick (some order) 3 (pick (some replicated) 2 1)

pub edition-third : (order replicated : List ℕ) → (length order ≡ 0 → ⊥) → 3 ≡ edition_by order replicated
edition-third [] replicated h = absurd (h refl)
edition-third (a ∷ l) replicated h = refl

pub edition-second : (order replicated : List ℕ) → length order ≡ 0 → (length replicated ≡ 0 → ⊥) → 2 ≡ edition_by order replicated
edition-second [] [] e h = absurd (h refl)
edition-second [] (a ∷ l) e h = refl
edition-second (a ∷ l) replicated e h = absurd (omega (arith, e))

pub edition-first : (order replicated : List ℕ) → length order ≡ 0 → length replicated ≡ 0 → 1 ≡ edition_by order replicated
edition-first [] [] d e = refl
edition-first [] (a ∷ l) d e = absurd (omega (arith, e))
edition-first (a ∷ l) replicated d e = absurd (omega (arith, d))

pub edition-few : (order replicated : List ℕ) → edition_by order replicated ≤ 3
edition-few [] [] = omega arith
edition-few [] (a ∷ l) = omega arith
edition-few (a ∷ l) replicated = omega arith

-- ---- lengths

replicated_few : (e : ℕ) (l : List ℕ) → length l ≤ most_axes → length (replicated_bytes e l) ≤ 7
unfolding replicated_bytes
replicated_few e l h = go (leb 2 e)
  where
    go : (b : Bool) → length (pick b (list_bytes l) []) ≤ 7
    go true = omega (arith, h)
    go false = omega arith

sharding-few : (e rank : ℕ) (s : code.Sharding) → rank ≤ most_dims → ShortSharding (sharding_given rank s)
    → length (sharding_bytes e (sharding_given rank s)) ≤ 42
unfolding sharding_bytes
sharding-few e rank s h f =
    omega (
      arith,
      lists-few rank s.dims h f.dims,
      f.unreduced,
      replicated_few e (list_given s.replicated) f.replicated,
      length-append (lists_bytes (dims_given rank s.dims)) (list_bytes (list_given s.unreduced) ++ replicated_bytes e (list_given s.replicated)),
      length-append (list_bytes (list_given s.unreduced)) (replicated_bytes e (list_given s.replicated)),
    )

front_length : (e : ℕ) (mesh order sizes : List ℕ) (s : Sharding)
    → length (front_bytes e mesh order sizes s) ≡ 2 * length mesh + (2 * length order + (2 * length sizes + length (sharding_bytes e s)))
front_length e mesh order sizes s = simp (length-append, length-u16s) refl

module _ (mesh order sizes : List ℕ) (start : code.Sharding) (bytes : List ℕ) (g : Encodable mesh order sizes start bytes) where
  abbrev all : Records
  all = records_given mesh order sizes start bytes

  abbrev given : Sharding
  given = sharding_given (length sizes) start

  pub edition_is : {e : ℕ} → e ≡ edition_by order (axes_of start.replicated) → e ≡ edition_of all
  edition_is {e} p =
      p ∙ ap (edition_by order) (sym (list-given start.replicated g.short_start.replicated))

  -- the front takes at most 2110 bytes
  pub front-few : (e : ℕ) → length (front_bytes e mesh order sizes given) ≤ 2110
  front-few e =
      omega (arith, front_length e mesh order sizes given, g.axes, g.devices, g.rank, sharding-few e (length sizes) start g.rank g.short_start)

  pub first_is : {e first : ℕ} → e ≡ edition_of all → first ≡ least_bytes + length (front_bytes e mesh order sizes given) → first ≡ steps_start all
  unfolding steps_start
  first_is {e} {first} p q =
      omega (arith, q, front_length e mesh order sizes given, ap (λ (k : ℕ). length (sharding_bytes k given)) p)

  pub total_is : {first total : ℕ} → first ≡ steps_start all → total ≡ first + length (steps_bytes (steps_given (length sizes) bytes))
      → total ≡ file_length all
  unfolding file_length
  total_is p q = omega (arith, p, q)

-- ---- the header, stored last

sets-set : (y l : List ℕ) (i : ℕ) (a : ℕ) (j : ℕ) → i < j → sets (set l i a) j y ≡ set (sets l j y) i a
sets-set [] l i a j h = refl
sets-set (b ∷ y) l i a j h =
    ap (λ (k : List ℕ). sets k (suc j) y) (set_comm l i j a b (λ e. omega (arith, e, h))) ∙ sets-set y (set l j b) i a (suc j) (omega (arith, h))

sets-before : (x y l : List ℕ) (i : ℕ) → sets (sets l (i + length x) y) i x ≡ sets l i (x ++ y)
sets-before [] y l i = ap (λ (k : ℕ). sets l k y) (add-zero i)
sets-before (a ∷ x) y l i =
    let e : i + suc (length x) ≡ suc i + length x = omega arith in
    let less : i < i + suc (length x) = omega arith in
    ap (λ (k : List ℕ). sets k (suc i) x) (sym (sets-set y l i a (i + suc (length x)) less))
    ∙ ap (λ (k : ℕ). sets (sets (set l i a) k y) (suc i) x) e
    ∙ sets-before x y (set l i a) (suc i)

-- bytes stored at the front
front-stored : (x l : List ℕ) (n : ℕ) → n ≡ length x → n ≤ length l → sets l 0 x ≡ x ++ drop n l
front-stored x l n e h =
    let z : 0 + length x ≡ n = omega (arith, e) in
    let room : 0 + length x ≤ length l = omega (arith, e, h) in
    sets-eq x l 0 room ∙ ap (λ (k : ℕ). x ++ drop k l) z

module _ (mesh order sizes : List ℕ) (start : code.Sharding) (bytes out : List ℕ)
    (w : Writable mesh order sizes start bytes out) (e outer first total : ℕ) (e-is : e ≡ edition_of (records_given mesh order sizes start bytes))
    (outer-is : outer ≡ outermost (steps_given (length sizes) bytes)) (first-at : first ≡ steps_start (records_given mesh order sizes start bytes))
    (total-at : total ≡ file_length (records_given mesh order sizes start bytes)) where
  abbrev of : Records
  of = records_given mesh order sizes start bytes

  abbrev numbers : List ℕ
  numbers = header_of e (length mesh) (length order) (length sizes) outer first total

  abbrev front : List ℕ
  front = front_bytes e mesh order sizes of.start

  header_is : numbers ≡ header of
  unfolding header
  header_is = λ i.
      e-is i ∷ length mesh ∷ length sizes ∷ outer-is i ∷ least_bytes ∷ (least_bytes + 2 * length mesh + 2 * length order)
      ∷ (least_bytes + 2 * length mesh + 2 * length order + 2 * length sizes) ∷ first-at i ∷ total-at i ∷ []

  -- the parts in their order
  file-is : u16s_bytes numbers ++ (front ++ steps_bytes of.steps) ≡ file_of of
  unfolding file_of
  file-is =
      let s : List ℕ = steps_bytes of.steps in
      let d : List ℕ = sharding_bytes e of.start in
      ap₂ (λ (h : List ℕ) (b : List ℕ). u16s_bytes h ++ b) header_is
      (append_assoc (u16s_bytes mesh) (u16s_bytes order ++ (u16s_bytes sizes ++ d)) s
      ∙ ap (λ (b : List ℕ). u16s_bytes mesh ++ b)
      (append_assoc (u16s_bytes order) (u16s_bytes sizes ++ d) s
      ∙ ap (λ (b : List ℕ). u16s_bytes order ++ b)
      (append_assoc (u16s_bytes sizes) d s ∙ ap (λ (k : ℕ). u16s_bytes sizes ++ (sharding_bytes k of.start ++ s)) e-is)))

  pub file-put : {b c d : List ℕ} {next : ℕ} → Put out b least_bytes first front → Put b c first total (steps_bytes of.steps)
      → Put c d 0 next (u16s_bytes numbers) → d ≡ file_of of ++ drop total out
  file-put {b} {c} {d} {next} p q h =
      let body : Put out c least_bytes total (front ++ steps_bytes of.steps) = put_both p q in
      let n : 0 + length (u16s_bytes numbers) ≡ least_bytes = omega (arith, length-u16s numbers) in
      let long : total ≡ length (u16s_bytes numbers ++ (front ++ steps_bytes of.steps)) =
      omega (arith, body.next, n, length-append (u16s_bytes numbers) (front ++ steps_bytes of.steps)) in
      let stored : d ≡ sets out 0 (u16s_bytes numbers ++ (front ++ steps_bytes of.steps)) =
      h.is ∙ ap (λ (l : List ℕ). sets l 0 (u16s_bytes numbers)) body.is
      ∙ ap (λ (k : ℕ). sets (sets out k (front ++ steps_bytes of.steps)) 0 (u16s_bytes numbers)) (sym n)
      ∙ sets-before (u16s_bytes numbers) (front ++ steps_bytes of.steps) out 0 in
      let room : total ≤ length out = omega (arith, total-at, w.room) in
      stored ∙ front-stored (u16s_bytes numbers ++ (front ++ steps_bytes of.steps)) out total long room
      ∙ ap (λ (f : List ℕ). f ++ drop total out) file-is
