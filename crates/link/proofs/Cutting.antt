-- One byte more into the word at hand.
use Rattle.std.proofs.Common.{◌≡◌, ℕ, ◌+◌, ◌<◌, ◌≤◌, ltb, List, [], ◌∷◌, ◌++◌, length, take, set, Some, None, sym, ap, ◌∙◌, ap₂, arith}
use Rattle.std.proofs.lemmas.List.{take_more_set, length_push, length-take-le, take_all, length-set}
use Rattle.std.proofs.lemmas.Bool.{cond-false, cond-true, lt-ltb, le-ltb}
use Rattle.link_theory.specs.Receiver.{cut}

module _ (y s n : ℕ) (word : List ℕ) (l : length word ≡ 204) (z : s ≤ 0) where
  longer : n < 204 → length (take n word ++ (y ∷ [])) ≡ n + 1
  longer h = length_push (take n word) y ∙ ap (λ k. k + 1) (length-take-le n word (omega arith))

  pub cut_more : n + 1 < 204 → record { gives = None; next = record { skip = s; word = take (n + 1) (set word n y) } } ≡ cut y (record { skip = s; word = take n word })
  cut_more h =
      let e : take (n + 1) (set word n y) ≡ take n word ++ (y ∷ []) = take_more_set word n y (omega arith) in
      ap₂ (λ k w. record { gives = None; next = record { skip = k; word = w } }) (let q : s ≡ 0 = omega arith in q) e
      ∙ sym (cond-true (ltb (length (take n word ++ (y ∷ []))) 204) _ _ (lt-ltb _ 204 (omega (arith, longer (omega arith)))))
      ∙ sym (cond-false (ltb 0 s) _ _ (le-ltb 0 s z))

  pub cut_full : n + 1 ≡ 204 → record { gives = Some (set word n y); next = record { skip = s; word = [] } } ≡ cut y (record { skip = s; word = take n word })
  cut_full h =
      let e : set word n y ≡ take n word ++ (y ∷ []) =
      sym (take_all (n + 1) (set word n y) (omega (arith, length-set word n y))) ∙ take_more_set word n y (omega arith) in
      ap₂ (λ k w. record { gives = Some w; next = record { skip = k; word = [] } }) (let q : s ≡ 0 = omega arith in q) e
      ∙ sym (cond-false (ltb (length (take n word ++ (y ∷ []))) 204) _ _ (le-ltb _ 204 (omega (arith, longer (omega arith)))))
      ∙ sym (cond-false (ltb 0 s) _ _ (le-ltb 0 s z))
