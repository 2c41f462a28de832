use Rattle.std.proofs.Common.{arith, List, ℕ, suc, ◌≡◌, ◌+◌, ◌-◌, ◌<◌, ◌++◌, length, set, replicate, refl, sym, ap, ◌∙◌, add-one}
use lib.Seq.{append_snoc, set_at}
use Rattle.model.specs.Bytes.{byte_at, tab, padded}
use Rattle.model.specs.Table.{transition_at}
use Rattle.model.proofs.Basics.{length-tab}
use Rattle.monitor.specs.From.{offsets_of}
use Rattle.monitor.proofs.offsets.Goals as goal

next_record : (b : List ℕ) (j at length : ℕ) → at ≡ transition_at b j → length ≡ byte_at b (at + 6) → at + (7 + length) ≡ transition_at b (j + 1)
unfolding transition_at
next_record b j at length e g =
    let h : length ≡ byte_at b (transition_at b j + 6) = g ∙ ap (λ (k : ℕ). byte_at b (k + 6)) e in
    let s : at + (7 + length) ≡ transition_at b (suc j) = omega arith in
    s ∙ ap (transition_at b) (sym (add-one j))

-- one more offset in its place
padded_more : (size : ℕ) (f : ℕ → ℕ) (i : ℕ) → i < size → (l : List ℕ) (v : ℕ) → l ≡ padded size (tab f i) → v ≡ f i → set l i v ≡ padded size (tab f (i + 1))
unfolding padded tab
padded_more size f i h l v e is =
    let rest : List ℕ = replicate (size - suc i) 0 in
    let room : size - length (tab f i) ≡ suc (size - suc i) = omega (arith, length-tab f i) in
    let left : size - suc i ≡ size - length (tab f (suc i)) = omega (arith, length-tab f (suc i)) in
    rw (e, is)
    (ap (λ (n : ℕ). set (tab f i ++ replicate n 0) i (f i)) room
    ∙ set_at (tab f i) 0 rest (f i) i (length-tab f i)
    ∙ sym (append_snoc (tab f i) (f i) rest)
    ∙ ap (λ (n : ℕ). tab f (suc i) ++ replicate n 0) left
    ∙ ap (λ (n : ℕ). padded size (tab f n)) (sym (add-one i)))

pub loop-j-init : goal.loop-j-init
unfolding tab padded
loop-j-init c = record { offset = c.transitions_at-at.ensures.0; short = omega arith; found = refl }

pub loop-j-preserved : goal.loop-j-preserved
loop-j-preserved c = grind (arith, next_record, padded_more)

pub returns : goal.returns
unfolding offsets_of
returns c = grind arith
