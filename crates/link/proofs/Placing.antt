-- A word with a position gives its packet.
use Rattle.std.proofs.Common.{◌≡◌, ℕ, ◌%◌, ◌<◌, List, take, Some, None, Ok, Err, Option, Result, ap, ◌∙◌, mod-eq_of_lt, arith}
use Rattle.framing.specs.Group.{position_of}
use Rattle.framing.specs.Mask.{restored}
use Rattle.framing.specs.declared.refusal.WordRefusal.{WordRefusal}
use Rattle.link_theory.specs.Receiver.{placed, event_of, outcome_of}
use Rattle.link_theory.specs.declared.outcome.Outcome.TheVariants.{Packet as packet}
use Rattle.link_theory.specs.declared.refusal.LinkFault.{LinkFault}
use Rattle.link.specs.Placed.{at_position, placed_at}

pair : (g n h m : ℕ) → ◌≡◌ {A = Result (ℕ × ℕ) LinkFault} (Ok (g, n)) (Ok (h, m)) → (g ≡ h) × (n ≡ m)
pair g n h m e = let q : ◌≡◌ {A = ℕ × ℕ} (g, n) (h, m) = cc in (ap (λ (p : ℕ × ℕ). p.0) q, ap (λ (p : ℕ × ℕ). p.1) q)

module _ (f g n : ℕ) (b buffer : List ℕ) (low : g < 8) (is : b ≡ restored (g % 8) (take 188 buffer)) where
  by_position : (m : ℕ) (o : Option ℕ) → Ok (g, n) ≡ at_position m o → packet b f n ≡ placed f m buffer o
  by_position m None e = absurd (let z : ◌≡◌ {A = ℕ} 0 1 = cc in omega arith)
  by_position m (Some h) e =
      let q = pair g n h m e in
      ap (λ (z : List ℕ). packet z f n) (is ∙ ap (λ i. restored i (take 188 buffer)) (mod-eq_of_lt low ∙ q.0)) ∙ ap (λ k. packet (restored h (take 188 buffer)) f k) q.1

  pub placed_packet : (e : Option ℕ) (a : Result ℕ WordRefusal) → Ok (g, n) ≡ placed_at e (record { answer = a; buffer = buffer })
      → packet b f n ≡ outcome_of (record { frame = f; expected = e }) (record { answer = a; buffer = buffer })
  placed_packet e (Ok m) h = by_position m (position_of e (event_of (record { answer = Ok m; buffer = buffer }))) h
  placed_packet e (Err x) h = absurd (let z : ◌≡◌ {A = ℕ} 0 1 = cc in omega arith)
