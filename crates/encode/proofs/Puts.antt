-- Laws of stores, one run behind another (`put_both`), and of the loops that store. Assumes nothing.
use Prim.Native.Nat.{ℕ, suc, ◌+◌, ◌*◌, ◌≤◌, ◌<◌}
use mathlib.Core.Path.{◌≡◌, refl, sym, ap, ap₂, ◌∙◌, subst}
use mathlib.Core.List.{List, [], ◌∷◌, ◌++◌, append-nil, append_assoc}
use native.Mathlib.Omega.{arith}
use native.Mathlib.Numerals.{add-one}
use native.Mathlib.Nat.{add-zero}
use lib.ListN.{length, get_or, set, take, length-append}
use lib.Seq.{sets, length-sets, take-suc, take-length}
use Rattle.records.specs.Records.{u16_bytes, u16s_bytes, list_bytes, lists_bytes}
use Rattle.encode.specs.Putting.{Put}

sets-append : (l : List ℕ) (i : ℕ) (x y : List ℕ) → sets l i (x ++ y) ≡ sets (sets l i x) (i + length x) y
sets-append l i [] y = ap (λ (k : ℕ). sets l k y) (sym (add-zero i))
sets-append l i (a ∷ x) y =
    let e : suc i + length x ≡ i + suc (length x) = omega arith in
    sets-append (set l i a) (suc i) x y ∙ ap (λ (k : ℕ). sets (sets (set l i a) (suc i) x) k y) e

pub put-none : (l : List ℕ) (at : ℕ) → Put l l at at []
put-none l at = record { is = refl; next = omega arith }

pub put-length : {l m : List ℕ} {at next : ℕ} {x : List ℕ} → Put l m at next x → length m ≡ length l
put-length {l} {m} {at} {next} {x} p = ap length p.is ∙ length-sets l at x

pub put_both : {l m n : List ℕ} {at next last : ℕ} {x y : List ℕ} → Put l m at next x → Put m n next last y → Put l n at last (x ++ y)
put_both {l} {m} {n} {at} {next} {last} {x} {y} p q = record {
  is = q.is ∙ ap₂ (λ (k : List ℕ) (i : ℕ). sets k i y) p.is p.next ∙ sym (sets-append l at x y);
  next = omega (arith, p.next, q.next, length-append x y);
}

all_of : {A : Type 0} (l : List A) (i : ℕ) → i ≡ length l → take i l ≡ l
all_of l i e = ap (λ (k : ℕ). take k l) e ∙ take-length l

-- ---- a loop over numbers

pub record Numbers (out₀ out : List ℕ) (at place : ℕ) (ks : List ℕ) (i : ℕ) : Type 0 where
  pub few : i ≤ length ks
  pub place_is : place ≡ at + 2 * i
  pub put : Put out₀ out at place (u16s_bytes (take i ks))

pub numbers-start : (out : List ℕ) (at : ℕ) (ks : List ℕ) → Numbers out out at at ks 0
unfolding u16s_bytes
numbers-start out at ks = record { few = omega arith; place_is = omega arith; put = put-none out at }

u16s-append : (ks ls : List ℕ) → u16s_bytes (ks ++ ls) ≡ u16s_bytes ks ++ u16s_bytes ls
unfolding u16s_bytes
u16s-append [] ls = refl
u16s-append (k ∷ ks) ls = ap (λ (l : List ℕ). u16_bytes k ++ l) (u16s-append ks ls)

pub numbers-step : {out₀ out next : List ℕ} {at place r : ℕ} {ks : List ℕ} {i : ℕ} → Numbers out₀ out at place ks i → i < length ks
    → Put out next place r (u16_bytes (get_or ks i 0)) → Numbers out₀ next at r ks (i + 1)
numbers-step {out₀} {out} {next} {at} {place} {r} {ks} {i} s h p =
    let e : u16s_bytes (take (i + 1) ks) ≡ u16s_bytes (take i ks) ++ u16s_bytes (get_or ks i 0 ∷ []) =
    ap (λ (k : ℕ). u16s_bytes (take k ks)) (add-one i) ∙ ap u16s_bytes (take-suc ks i 0 h) ∙ u16s-append (take i ks) (get_or ks i 0 ∷ []) in
    record {
      few = omega arith;
      place_is = omega (arith, s.place_is, p.next);
      put = subst (Put out₀ next at r) (sym e) (unfold u16s_bytes in put_both s.put p);
    }

pub numbers-done : {out₀ out : List ℕ} {at place : ℕ} {ks : List ℕ} {i : ℕ} → Numbers out₀ out at place ks i → length ks ≤ i
    → Put out₀ out at place (u16s_bytes ks)
numbers-done {out₀} {out} {at} {place} {ks} {i} s h =
    subst (λ (l : List ℕ). Put out₀ out at place (u16s_bytes l)) (all_of ks i (omega (arith, s.few))) s.put

-- ---- a loop over axes

pub record Axes (out₀ out : List ℕ) (at place : ℕ) (axes : List ℕ) (i : ℕ) : Type 0 where
  pub few : i ≤ length axes
  pub place_is : place ≡ at + i
  pub put : Put out₀ out at place (take i axes)

pub axes-start : (out : List ℕ) (at : ℕ) (axes : List ℕ) → Axes out out at at axes 0
axes-start out at axes = record { few = omega arith; place_is = omega arith; put = put-none out at }

pub axes-step : {out₀ out next : List ℕ} {at place r : ℕ} {axes : List ℕ} {i : ℕ} → Axes out₀ out at place axes i → i < length axes
    → {a : ℕ} → a ≡ get_or axes i 0 → Put out next place r (a ∷ []) → Axes out₀ next at r axes (i + 1)
axes-step {out₀} {out} {next} {at} {place} {r} {axes} {i} s h {a} e p =
    let q : take (i + 1) axes ≡ take i axes ++ get_or axes i 0 ∷ [] = ap (λ (k : ℕ). take k axes) (add-one i) ∙ take-suc axes i 0 h in
    record {
      few = omega arith;
      place_is = omega (arith, s.place_is, p.next);
      put = subst (Put out₀ next at r) (ap (λ (b : ℕ). take i axes ++ b ∷ []) e ∙ sym q) (put_both s.put p);
    }

pub axes-done : {out₀ out₁ out : List ℕ} {at next place k : ℕ} {axes : List ℕ} {i : ℕ} → Put out₀ out₁ at next (k ∷ []) → k ≡ length axes
    → Axes out₁ out next place axes i → length axes ≤ i → Put out₀ out at place (list_bytes axes)
axes-done {out₀} {out₁} {out} {at} {next} {place} {k} {axes} {i} c e s h =
    let all : Put out₁ out next place axes = subst (Put out₁ out next place) (all_of axes i (omega (arith, s.few))) s.put in
    subst (λ (n : ℕ). Put out₀ out at place (n ∷ axes)) e (put_both c all)

-- ---- a loop over lists

pub record Lists (out₀ out : List ℕ) (at place : ℕ) (ls : List (List ℕ)) (d : ℕ) : Type 0 where
  pub few : d ≤ length ls
  pub near : place ≤ at + 7 * d
  pub put : Put out₀ out at place (lists_bytes (take d ls))

pub lists-start : (out : List ℕ) (at : ℕ) (ls : List (List ℕ)) → Lists out out at at ls 0
unfolding lists_bytes
lists-start out at ls = record { few = omega arith; near = omega arith; put = put-none out at }

lists-append : (ks ls : List (List ℕ)) → lists_bytes (ks ++ ls) ≡ lists_bytes ks ++ lists_bytes ls
unfolding lists_bytes
lists-append [] ls = refl
lists-append (k ∷ ks) ls =
    ap (λ (l : List ℕ). list_bytes k ++ l) (lists-append ks ls) ∙ sym (append_assoc (list_bytes k) (lists_bytes ks) (lists_bytes ls))

lists-one : (l : List ℕ) → lists_bytes (l ∷ []) ≡ list_bytes l
unfolding lists_bytes
lists-one l = append-nil (list_bytes l)

pub lists-step : {out₀ out next : List ℕ} {at place r : ℕ} {ls : List (List ℕ)} {d : ℕ} → Lists out₀ out at place ls d → d < length ls
    → {l : List ℕ} → l ≡ get_or ls d [] → length l ≤ 6 → Put out next place r (list_bytes l) → Lists out₀ next at r ls (d + 1)
lists-step {out₀} {out} {next} {at} {place} {r} {ls} {d} s h {l} e few p =
    let q : lists_bytes (take (d + 1) ls) ≡ lists_bytes (take d ls ++ get_or ls d [] ∷ []) =
    ap (λ (k : ℕ). lists_bytes (take k ls)) (add-one d) ∙ ap lists_bytes (take-suc ls d [] h) in
    let one : lists_bytes (take d ls) ++ list_bytes l ≡ lists_bytes (take d ls ++ l ∷ []) =
    ap (λ (k : List ℕ). lists_bytes (take d ls) ++ k) (sym (lists-one l)) ∙ sym (lists-append (take d ls) (l ∷ [])) in
    record {
      few = omega arith;
      near = omega (arith, s.near, p.next);
      put = subst (Put out₀ next at r) (one ∙ ap (λ (k : List ℕ). lists_bytes (take d ls ++ k ∷ [])) e ∙ sym q) (put_both s.put p);
    }

pub lists-done : {out₀ out : List ℕ} {at place : ℕ} {ls : List (List ℕ)} {d : ℕ} → Lists out₀ out at place ls d → length ls ≤ d
    → Put out₀ out at place (lists_bytes ls)
lists-done {out₀} {out} {at} {place} {ls} {d} s h =
    subst (λ (l : List (List ℕ)). Put out₀ out at place (lists_bytes l)) (all_of ls d (omega (arith, s.few))) s.put
