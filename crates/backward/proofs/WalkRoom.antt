-- Rows written into a room one behind the other, and the frame before them.
use Prim.Native.Nat.{ℕ, ◌+◌, ◌-◌, ◌*◌, ◌≤◌, ◌<◌}
use native.Mathlib.Nat.{zero-add}
use native.Mathlib.Decide.{dec_lt}
use native.Mathlib.Omega.{arith}
use mathlib.Core.Path.{◌≡◌, sym, ap, ap₂, ◌∙◌}
use mathlib.Core.List.{List, [], ◌++◌, append_assoc, append-nil}
use lib.ListN.{length, take, drop, drop_of_length-le, length-append, length-take, length-drop, take-append-drop}
use lib.Seq.{take_all, take_at, drop_at, drop-drop, length-take-le}
use Rattle.model.specs.Edition.{rows_place}
use Rattle.model.specs.Frame.{rows_frame}
use Rattle.model.specs.Room.{over}
use Rattle.model.specs.Witness.{Row, rows_bytes, witness_bytes}
use Rattle.model.specs.declared.Edition.{Edition}
use Rattle.model.proofs.EditionLaws.{frame_length}
use Rattle.model.proofs.WitnessForm.{rows_bytes-append, rows_bytes-length}
use Rattle.wire.specs.Placed.{placed}
use Rattle.wire.proofs.Room.{placed-fits, placed_not}
use Rattle.backward.specs.WalkRows.{RowsPut, Room}

-- places in a room

pub placed-length : (a : List ℕ) (at : ℕ) (room : List ℕ) → length (placed a at room) ≡ length room
placed-length a at room = on (dec_lt (length room) (at + length a))
  where
    on : Dec (length room < at + length a) → length (placed a at room) ≡ length room
    on (yes h) = ap length (placed_not a at room (omega arith))
    on (no h) =
        ap length (placed-fits a at room (omega arith))
        ∙ simp (length-append, length-take, length-drop) (omega arith)

placed_none_fits : (at : ℕ) (room : List ℕ) → at ≤ length room → placed [] at room ≡ room
placed_none_fits at room h =
    let e : at + 0 ≡ at = omega arith in
    placed-fits [] at room (omega arith)
    ∙ ap₂ (λ (l : List ℕ) (n : ℕ). l ++ drop n room) (append-nil (take at room)) e
    ∙ take-append-drop at room

placed_none : (at : ℕ) (room : List ℕ) → placed [] at room ≡ room
placed_none at room = on (dec_lt (length room) at)
  where
    on : Dec (length room < at) → placed [] at room ≡ room
    on (yes h) = placed_not [] at room (omega arith)
    on (no h) = placed_none_fits at room (omega arith)

-- bytes placed behind bytes
placed-more : (a b : List ℕ) (at : ℕ) (room : List ℕ) → at + length a + length b ≤ length room
    → placed b (at + length a) (placed a at room) ≡ placed (a ++ b) at room
placed-more a b at room h =
    let front : List ℕ = take at room ++ a in
    let rest : List ℕ = drop (at + length a) room in
    let long : length front ≡ at + length a = length-append (take at room) a ∙ ap (λ (n : ℕ). n + length a) (length-take-le at room (omega arith)) in
    let end : at + length a + length b ≡ at + length (a ++ b) = omega (arith, length-append a b) in
    let behind : drop (at + length a + length b) (front ++ rest) ≡ drop (at + length (a ++ b)) room =
    sym (drop-drop (length b) (at + length a) (front ++ rest))
    ∙ ap (drop (length b)) (drop_at front rest (at + length a) long)
    ∙ drop-drop (length b) (at + length a) room
    ∙ ap (λ (n : ℕ). drop n room) end in
    placed-fits b (at + length a) (placed a at room) (omega (arith, placed-length a at room))
    ∙ ap (λ (l : List ℕ). take (at + length a) l ++ b ++ drop (at + length a + length b) l) (placed-fits a at room (omega arith))
    ∙ ap₂ (λ (x y : List ℕ). x ++ b ++ y) (take_at front rest (at + length a) long) behind
    ∙ ap (λ (l : List ℕ). l ++ drop (at + length (a ++ b)) room) (append_assoc (take at room) a b)
    ∙ sym (placed-fits (a ++ b) at room (omega (arith, length-append a b)))

-- rows

pub rows_put_none : (r : ℕ) (room : List ℕ) → RowsPut [] r r room room
unfolding rows_bytes
rows_put_none r room = record { bytes = sym (placed_none (5 * r) room); count = omega arith }

pub rows_put_more : {a b : List Row} {r n k : ℕ} {x y z : List ℕ} → Room (a ++ b) r x → RowsPut a r n x y → RowsPut b n k y z → RowsPut (a ++ b) r k x z
rows_put_more {a} {b} {r} {n} {k} {x} {y} {z} h first then =
    let place : 5 * n ≡ 5 * r + length (rows_bytes a) = omega (arith, rows_bytes-length a, first.count) in
    record {
      bytes =
          then.bytes
          ∙ ap₂ (λ (p : ℕ) (l : List ℕ). placed (rows_bytes b) p l) place first.bytes
          ∙ placed-more (rows_bytes a) (rows_bytes b) (5 * r) x (omega (arith, rows_bytes-length a, rows_bytes-length b, length-append a b))
          ∙ ap (λ (l : List ℕ). placed l (5 * r) x) (sym (rows_bytes-append a b));
      count = omega (arith, first.count, then.count, length-append a b);
    }

pub rows_put_length : {a : List Row} {r n : ℕ} {x y : List ℕ} → RowsPut a r n x y → length y ≡ length x
rows_put_length {a} {r} {n} {x} {y} w = ap length w.bytes ∙ placed-length (rows_bytes a) (5 * r) x

-- all rows, from the start of a room
pub rows_put_all : {a : List Row} {n : ℕ} {x y : List ℕ} → RowsPut a 0 n x y → Room a 0 x → y ≡ over (rows_bytes a) x
rows_put_all {a} {n} {x} {y} w h = w.bytes ∙ placed-fits (rows_bytes a) 0 x (omega (arith, rows_bytes-length a)) ∙ ap (λ (k : ℕ). rows_bytes a ++ drop k x) (zero-add (length (rows_bytes a)))

-- the part of a room behind its first bytes is long enough
pub part_room : (head : ℕ) (room : List ℕ) (n : ℕ) → head + n ≤ length room → n ≤ length (take (length room - head) (drop head room))
part_room head room n fits = omega (arith, length-take (length room - head) (drop head room), length-drop head room)

-- the frame before rows that stand in the part of the room behind it
framed-rows : (edition : Edition) (a : List Row) (head n : ℕ) (room part : List ℕ) → head ≡ rows_place edition → n ≡ length a → part ≡ over (rows_bytes a) (drop head room)
    → head + 5 * length a ≤ length room → placed (rows_frame edition 5 n) 0 (take head room ++ part) ≡ over (witness_bytes edition a) room
unfolding witness_bytes
framed-rows edition a head n room part place count rows fits =
    let frame : List ℕ = rows_frame edition 5 (length a) in
    let long : length frame ≡ head = frame_length edition 5 (length a) ∙ sym place in
    let bytes : length (rows_bytes a) ≡ 5 * length a = rows_bytes-length a in
    let behind : head + length (rows_bytes a) ≡ length (frame ++ rows_bytes a) = omega (arith, length-append frame (rows_bytes a)) in
    ap₂ (λ (k : ℕ) (l : List ℕ). placed (rows_frame edition 5 k) 0 (take head room ++ l)) count rows
    ∙ placed-fits frame 0 (take head room ++ over (rows_bytes a) (drop head room))
    (omega (arith, length-append (take head room) (over (rows_bytes a) (drop head room)), length-take-le head room (omega arith)))
    ∙ ap (λ (l : List ℕ). frame ++ l) (drop_at (take head room) (over (rows_bytes a) (drop head room)) (0 + length frame) (length-take-le head room (omega arith) ∙ omega arith))
    ∙ sym (append_assoc frame (rows_bytes a) (drop (length (rows_bytes a)) (drop head room)))
    ∙ ap (λ (l : List ℕ). frame ++ rows_bytes a ++ l) (drop-drop (length (rows_bytes a)) head room ∙ ap (λ (k : ℕ). drop k room) behind)

-- .. where that part is handed on and comes back
pub framed_part : (edition : Edition) (a : List Row) (head n : ℕ) (room part : List ℕ) → head ≡ rows_place edition → n ≡ length a
    → part ≡ over (rows_bytes a) (take (length room - head) (drop head room)) → head + 5 * length a ≤ length room
    → placed (rows_frame edition 5 n) 0 (take head room ++ (part ++ drop (length room - head) (drop head room))) ≡ over (witness_bytes edition a) room
framed_part edition a head n room part place count rows fits =
    let long : length (drop head room) ≤ length room - head = omega (arith, length-drop head room) in
    ap (λ (l : List ℕ). placed (rows_frame edition 5 n) 0 (take head room ++ l)) (ap (λ (l : List ℕ). part ++ l) (drop_of_length-le (drop head room) long) ∙ append-nil part)
    ∙ framed-rows edition a head n room part place count (rows ∙ ap (over (rows_bytes a)) (take_all (length room - head) (drop head room) long)) fits
