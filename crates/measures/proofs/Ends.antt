-- The last recorded time, by the rows of a recording.
use Prim.Native.Nat.{ℕ, suc}
use mathlib.Core.Path.{◌≡◌, refl, sym, ap, ◌∙◌}
use mathlib.Core.List.{List, [], ◌∷◌, ◌++◌}
use Rattle.model.specs.Bytes.{tab}
use Rattle.model.specs.Trace.{Packet}
use Rattle.model.specs.Recording.{count_at, time_at, packets_at, end_of}
use Rattle.model.proofs.RecordingForm.{packet_at, packets-tab}

-- the last row is at T

end_snoc : (l : List Packet) (p : Packet) → end_of (l ++ (p ∷ [])) ≡ p.time
unfolding end_of
end_snoc [] p = refl
end_snoc (q ∷ []) p = refl
end_snoc (q ∷ r ∷ l) p = end_snoc (r ∷ l) p

pub end-time : (b : List ℕ) (n : ℕ) → count_at b ≡ suc n → end_of (packets_at b) ≡ time_at b n
unfolding tab
end-time b n e = ap end_of (packets-tab b ∙ ap (tab (packet_at b)) e) ∙ end_snoc (tab (packet_at b) n) (packet_at b n)

pub no_end : (recording : List ℕ) → count_at recording ≡ 0 → 0 ≡ end_of (packets_at recording)
unfolding tab end_of
no_end recording c = sym (ap end_of (packets-tab recording ∙ ap (tab (packet_at recording)) c))
