-- A header is judged by its bytes and the length of the file: any file that begins with them serves (`judged-by`). Assumes nothing.
use Prim.Native.Nat.{ℕ, ◌+◌, ◌≤◌, ◌<◌}
use mathlib.Core.Path.{◌≡◌, sym, ap, ◌∙◌}
use mathlib.Core.List.{List, ◌++◌}
use native.Mathlib.Omega.{arith}
use native.Mathlib.Decide.{dec_lt}
use lib.ListN.{length, get_or, take, replicate, length-append, get_or-append, get_or-eq_default}
use lib.Seq.{length-take-le, get_or-take}
use Rattle.rules.specs.Limits.{least_bytes}
use Rattle.reader.specs.Reading.{header_of}
use Rattle.units.specs.Units.{headed}
use Rattle.units.proofs.Checks.{header-by, headed-long}

pub judged-by : (head first rest : List ℕ) (n : ℕ) → first ≡ head → length head ≡ least_bytes → n ≤ least_bytes + length rest
    → header_of (take n (first ++ rest)) ≡ header_of (headed head n)
judged-by head first rest n e l few =
    ap (λ (z : List ℕ). header_of (take n (z ++ rest))) e
    ∙ header-by (headed head n) (take n file) (λ k b. go k b (dec_lt k n)) (whole ∙ sym (headed-long head n))
  where
    file : List ℕ
    file = head ++ rest

    whole : length (take n file) ≡ n
    whole = length-take-le n file (omega (arith, length-append head rest, l, few))

    go : (k : ℕ) → k < least_bytes → Dec (k < n) → get_or (take n file) k 0 ≡ get_or (headed head n) k 0
    go k b (yes h) =
        get_or-take n file k 0 h ∙ get_or-append head rest 0 k (omega (arith, l))
        ∙ sym (get_or-take n (head ++ replicate n 0) k 0 h ∙ get_or-append head (replicate n 0) 0 k (omega (arith, l)))
    go k b (no h) =
        get_or-eq_default (take n file) 0 (omega (arith, h, whole))
        ∙ sym (get_or-eq_default (headed head n) 0 (omega (arith, h, headed-long head n)))
