-- A byte that is sent alone.
use Rattle.std.proofs.Common.{◌≡◌, ℕ, ◌+◌, ◌%◌, ◌<◌, ◌≤◌, ◌≢◌, List, length, get_or, Some, None, Option, sym, refl, ap, ◌∙◌, arith, MatchOption}
use native.Mathlib.Decide.{ℕ_discrete, dec_lt}
use Rattle.delay_line.specs.Laws.{DelayedBy}
use Rattle.delays.specs.Marks.{marked_at}

marked_here : (place k : ℕ) → k ≡ place → marked_at place k ≡ 1
marked_here place k e = grind arith

marked_away : (place k : ℕ) → k ≢ place → marked_at place k ≡ 0
marked_away place k ne = grind arith

module _ (w : ℕ → ℕ) (xs ys : List ℕ) (place n : ℕ) (whole : length xs ≡ n) (marked : (k : ℕ) → k < n → get_or xs k 0 ≡ marked_at place k) (D : DelayedBy w xs ys) where
  -- where a one comes out, it is the marked byte
  alone_found : (p : ℕ) → p < length ys → get_or ys p 0 ≡ 1 → p ≡ place + w (place % 204)
  alone_found p lt e = go (ℕ_discrete p (place + w (place % 204)))
    where
      lt' : p < length xs
      lt' = omega (arith, D.as_long)

      none : p ≢ place + w (place % 204) → (i : ℕ) → i + w (i % 204) ≡ p → ⊥
      none ne i ei =
          let away : i ≢ place = λ h. ne (sym ei ∙ ap (λ k. k + w (k % 204)) h) in
          let zero' : get_or ys p 0 ≡ 0 = D.placed i p lt' ei ∙ marked i (omega arith) ∙ marked_away place i away in
          omega arith

      go : Dec (p ≡ place + w (place % 204)) → p ≡ place + w (place % 204)
      go (yes h) = h
      go (no ne) = absurd (let z : ⊥ = omega (arith, D.empty p lt' (none ne)) in z)

  -- and where none does, it comes out later
  alone_missing : ((k : ℕ) → k < length ys → get_or ys k 0 ≡ 1 → ⊥) → n ≤ place + w (place % 204)
  alone_missing none = go (dec_lt (place + w (place % 204)) (length xs))
    where
      go : Dec (place + w (place % 204) < length xs) → n ≤ place + w (place % 204)
      go (yes h) = absurd (none (place + w (place % 204)) (omega (arith, D.as_long))
          (D.placed place (place + w (place % 204)) h refl ∙ marked place (omega arith) ∙ marked_here place place refl))
      go (no h) = omega (arith, h)

  pub alone_answer : (r : Option ℕ) → MatchOption r ((k : ℕ) → k < length ys → get_or ys k 0 ≡ 1 → ⊥) (λ k. (k < length ys) × (get_or ys k 0 ≡ 1))
      → MatchOption r (n ≤ place + w (place % 204)) (λ p. p ≡ place + w (place % 204))
  alone_answer None h = alone_missing h
  alone_answer (Some p) h = alone_found p h.0 h.1
