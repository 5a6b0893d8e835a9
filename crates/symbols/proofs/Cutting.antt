-- A list cut into pieces of n.
use Rattle.std.proofs.Common.{◌≡◌, ℕ, zero, suc, ◌+◌, ◌-◌, ◌*◌, ◌<◌, ◌≤◌, List, [], ◌∷◌, length, get_or, take, drop, ap, ◌∙◌, arith}
use Rattle.std.proofs.lemmas.List.{length-drop, drop-drop}

-- ys are what f makes of the whole pieces of xs, in order
pub record Cut (A B : Type 0) (n : ℕ) (f : List A → B) (d : B) (xs : List A) (ys : List B) : Type 0 where
  pub fits : n * length ys ≤ length xs
  pub ends : length xs < n * suc (length ys)
  pub each : (i : ℕ) → i < length ys → get_or ys i d ≡ f (take n (drop (n * i) xs))

pub cut_none : {A B : Type 0} (n : ℕ) (f : List A → B) (d : B) (xs : List A) → length xs < n → Cut A B n f d xs []
cut_none n f d xs l = record { fits = omega arith; ends = omega arith; each = λ i lt. absurd (let z : ⊥ = omega arith in z) }

pub cut_cons : {A B : Type 0} (n : ℕ) (f : List A → B) (d : B) (xs : List A) (ys : List B) → n ≤ length xs → Cut A B n f d (drop n xs) ys → Cut A B n f d xs (f (take n xs) ∷ ys)
cut_cons {A} {B} n f d xs ys l c =
    let e : length (drop n xs) ≡ length xs - n = length-drop n xs in
    let h : n * length ys ≤ length (drop n xs) = c.fits in
    let k : length (drop n xs) < n * suc (length ys) = c.ends in
    record { fits = omega arith; ends = omega arith; each = eaches }
  where
    eaches : (i : ℕ) → i < suc (length ys) → get_or (f (take n xs) ∷ ys) i d ≡ f (take n (drop (n * i) xs))
    eaches zero lt = ap (λ k. f (take n (drop k xs))) (let z : 0 ≡ n * 0 = omega arith in z)
    eaches (suc i) lt =
        c.each i (omega arith) ∙ ap (λ l. f (take n l)) (drop-drop (n * i) n xs) ∙ ap (λ k. f (take n (drop k xs))) (let z : n + n * i ≡ n * suc i = omega arith in z)
