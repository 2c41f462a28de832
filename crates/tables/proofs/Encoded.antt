-- The bytes of a table, as they are placed record by record.
use Prim.Native.Nat.{ℕ, suc, ◌+◌, ◌-◌, ◌*◌, ◌≤◌, ◌<◌, min}
use native.Mathlib.Omega.{arith}
use native.Mathlib.Nat.{min-eq_left, min-eq_right}
use native.Mathlib.Decide.{dec_le}
use mathlib.Core.Path.{◌≡◌, refl, sym, ap, ◌∙◌}
use mathlib.Core.List.{List, [], ◌∷◌, ◌++◌, append_assoc}
use lib.ListN.{length, get_or, take, drop, length-append, length-take, length-drop, take-append-drop}
use mathlib.Core.Bool.{true, false}
use borrow.Author.Tests.{le-leb, eq-eqb}
use lib.Seq.{take-take, take_all, length-take-le}
use Rattle.model.specs.Limits.{table_versions, kind_limit, transition_limit, guard_limit}
use Rattle.model.specs.Bytes.{byte_at, word_at, word_bytes, joined}
use Rattle.model.specs.First.{unless, and_then, Reading, Writing}
use Rattle.model.specs.Frame.{is_version, framed}
use Rattle.model.specs.Answers.{Writes}
use Rattle.model.specs.Room.{write, over}
use Rattle.model.specs.Kinds.{kind_at, kind_bytes}
use Rattle.model.specs.Table.{guard_bytes_in, transition_bytes, count_bytes, table_body, table_bytes, table_limit, counts_of, table_counts, scan_with, whole_answer, monitor_of, table_parts, table_writable, write_table}
use Rattle.model.specs.declared.Edition.TheVariants.{One}
use Rattle.model.specs.declared.Refusal.TheVariants.{TableFrame, TableVersion}
use Rattle.std.specs.Prelude.{Ok, Err}
use Rattle.model.specs.declared.Refusal.{Refusal}
use Rattle.model.specs.declared.TableParts.{TableParts}
use Rattle.model.proofs.KindForm.{kind_next, kind-most, kind-length, kinds-length}
use Rattle.model.proofs.TableTrip.{monitor_back}
use Rattle.wire.specs.Placed.{placed}
use Rattle.wire.proofs.Room.{placed-behind}
use Rattle.columns.proofs.Columns.{joined-most}
use Rattle.frame.proofs.Written.{placed_first, write-refused}
use Rattle.tables.proofs.Tables.{scan_all}

-- a guard's bytes, cut at its places

take_within : (l : List ℕ) (n : ℕ) → take n (take guard_limit l) ≡ take (min n guard_limit) l
take_within l n = go (dec_le n guard_limit)
  where
    go : Dec (n ≤ guard_limit) → take n (take guard_limit l) ≡ take (min n guard_limit) l
    go (yes h) = take-take n guard_limit l h ∙ ap (λ m. take m l) (sym (min-eq_left h))
    go (no h) =
        let k : guard_limit ≤ n = omega arith in
        take_all n (take guard_limit l) (omega (arith, length-take guard_limit l)) ∙ ap (λ m. take m l) (sym (min-eq_right k))

module _ (guards : List ℕ) (j count w : ℕ) (is : w ≡ min count guard_limit) where
  pub guard_part : take (guard_limit * j + w - guard_limit * j) (drop (guard_limit * j) guards) ≡ guard_bytes_in guards count j
  guard_part =
      let all : guard_limit * j + w - guard_limit * j ≡ min count guard_limit = omega arith in
      ap (λ m. take m (drop (guard_limit * j) guards)) all ∙ sym (take_within (drop (guard_limit * j) guards) count)

  pub guard-count : j < transition_limit → guard_limit * transition_limit ≤ length guards → guard_limit * j + w - guard_limit * j ≡ length (guard_bytes_in guards count j)
  guard-count h k =
      let rest : List ℕ = drop (guard_limit * j) guards in
      sym (length-take (guard_limit * j + w - guard_limit * j) rest ∙ omega (arith, length-drop (guard_limit * j) guards)) ∙ ap length guard_part

pub kinds-long : (t : TableParts) (head : List ℕ) (i : ℕ) → length head ≡ 8 → length (head ++ joined (kind_bytes t) i) ≡ kind_at t.version i
kinds-long t head i h = length-append head (joined (kind_bytes t) i) ∙ omega (arith, kinds-length t i)

-- a kind's record ends before the longest table does
pub kind-room : (t : TableParts) (i : ℕ) → i < kind_limit → kind_at t.version i + length (kind_bytes t i) ≤ table_limit
kind-room t i h = omega (arith, kind-length t i, kind_next t.version i, kind-most t.version (suc i) kind_limit h)

-- a record of two parts, the first of seven bytes
module _ (head room x y : List ℕ) (at : ℕ) (long : length head ≡ at) (seven : length x ≡ 7) where
  pub two_long : (r : ℕ) → r ≡ length y → at + 7 + r ≡ length (head ++ (x ++ y))
  two_long r e = sym (length-append head (x ++ y) ∙ omega (arith, length-append x y))

  pub two_placed : at + 7 + length y ≤ length room → (out one two : List ℕ) → out ≡ over head room → one ≡ placed x at out → two ≡ placed y (at + 7) one → two ≡ over (head ++ (x ++ y)) room
  two_placed fits out one two e f g =
      let first : one ≡ over (head ++ x) room = f ∙ ap (placed x at) e ∙ placed-behind head x room at long (omega arith) in
      g
      ∙ ap (placed y (at + 7)) first
      ∙ placed-behind (head ++ x) y room (at + 7) (length-append head x ∙ omega arith) fits
      ∙ ap (λ (l : List ℕ). over l room) (append_assoc head x y)

-- the whole table

module _ (t : TableParts) where
  abbrev kinds : List ℕ
  kinds = joined (kind_bytes t) t.kinds

  abbrev transitions : List ℕ
  transitions = joined (transition_bytes t) t.transitions

  pub body_long : (z : List ℕ) → length z ≡ 8 → length (table_body t) + 2 ≡ length ((z ++ kinds) ++ transitions)
  unfolding table_body
  body_long z e = sym (length-append (z ++ kinds) transitions ∙ omega (arith, length-append z kinds, length-append kinds transitions))

  pub table_is : (n : ℕ) → n ≡ length (table_body t) → ((word_bytes n ++ count_bytes t) ++ kinds) ++ transitions ≡ table_bytes t
  unfolding table_bytes table_body
  table_is n e = ap (λ m. word_bytes m ++ (count_bytes t ++ kinds ++ transitions)) e

  pub table_long : length (table_bytes t) ≡ length (table_body t) + 2
  unfolding table_bytes
  table_long = omega arith

  start : (out : List ℕ) → 8 ≤ length out → out ≡ over (take 8 out) out
  start out h = sym (ap (λ n. take 8 out ++ drop n out) (length-take-le 8 out h) ∙ take-append-drop 8 out)

  -- the records, and then what stands before them
  pub encoded : (out one two three head : List ℕ) (end : ℕ) → length out ≡ table_limit
      → ((z room : List ℕ) → length z ≡ 8 → table_limit ≤ length room → out ≡ over z room → one ≡ over (z ++ kinds) room)
      → ((z room : List ℕ) → length z ≡ kind_at t.version t.kinds → table_limit ≤ length room → one ≡ over z room → (two ≡ over (z ++ transitions) room) × (end ≡ length (z ++ transitions)))
      → end ≤ table_limit
      → head ≡ word_bytes (end - 2) ++ count_bytes t
      → three ≡ placed head 0 two
      → (three ≡ over (table_bytes t) out) × (end ≡ length (table_bytes t))
  encoded out one two three head end l f g most h e =
      let z : List ℕ = take 8 out in
      let eight : length z ≡ 8 = length-take-le 8 out (omega arith) in
      let p = f z out eight (omega arith) (start out (omega arith)) in
      let q = g (z ++ kinds) out (kinds-long t z t.kinds eight) (omega arith) p in
      let body = body_long z eight in
      let total : end - 2 ≡ length (table_body t) = omega (arith, body, q.1) in
      let flat = append_assoc z kinds transitions in
      let first = placed_first z (word_bytes (end - 2) ++ count_bytes t) (kinds ++ transitions) out eight (omega (arith, ap length flat, q.1)) in (
        e
            ∙ ap (λ (b : List ℕ). placed b 0 two) h
            ∙ ap (placed (word_bytes (end - 2) ++ count_bytes t) 0) (q.0 ∙ ap (λ (b : List ℕ). over b out) flat)
            ∙ first
            ∙ ap (λ (b : List ℕ). over b out) (table_is (end - 2) total),
        q.1 ∙ sym body ∙ sym table_long,
      )

  -- what reading these bytes gives, where a count is outside its limits

  transition-most : (j : ℕ) → length (transition_bytes t j) ≤ 7 + guard_limit
  transition-most j =
      let places : List ℕ = take guard_limit (drop (guard_limit * j) t.guards) in
      let count : ℕ = get_or t.lengths j 0 in
      omega (arith, length-take count places, length-take guard_limit (drop (guard_limit * j) t.guards))

  body_most : t.kinds ≤ 255 → t.transitions ≤ 255 → length (table_body t) < 65536
  body_most h k =
      let z : List ℕ = 0 ∷ 0 ∷ 0 ∷ 0 ∷ 0 ∷ 0 ∷ 0 ∷ 0 ∷ [] in
      let most = joined-most (transition_bytes t) (7 + guard_limit) t.transitions transition-most in
      omega (arith, body_long z refl, length-append (z ++ kinds) transitions, length-append z kinds, kinds-length t t.kinds, kind-most t.version t.kinds 255 h, most)

  word_is : length (table_body t) < 65536 → word_at (table_bytes t) 0 ≡ length (table_body t)
  unfolding table_bytes
  word_is h = omega arith

  version-is : byte_at (table_bytes t) 2 ≡ t.version
  unfolding table_bytes table_body
  version-is = refl

  counts_same : table_counts (table_bytes t) ≡ counts_of t.states t.variables t.clocks t.kinds t.transitions
  unfolding counts_of table_bytes table_body
  counts_same = refl

  body_least : 6 ≤ length (table_body t)
  unfolding table_body
  body_least = omega arith

  frame_is : length (table_body t) < 65536 → framed One (table_bytes t) 8 1 table_versions TableFrame TableVersion ≡ and_then (unless (is_version 1 table_versions t.version) TableVersion) (Ok tt)
  unfolding framed
  frame_is h =
      let all : word_at (table_bytes t) 0 + 2 ≡ length (table_bytes t) = omega (arith, word_is h, table_long) in
      let least : 8 ≤ length (table_bytes t) = omega (arith, body_least, table_long) in
      rw (le-leb 8 (length (table_bytes t)) least, eq-eqb (word_at (table_bytes t) 0 + 2) (length (table_bytes t)) all, version-is)

  refused_scan : (room : List ℕ) (why : Refusal) → scan_with t.devices (table_bytes t) ≡ Err why → Writes (write_table t room) (Err why) room
  unfolding write_table
  refused_scan room why e = write-refused (table_writable t) (table_bytes t) room why (scan_all (table_bytes t) t.devices ∙ rw e)

  -- 11
  pub write-version : (room : List ℕ) → t.kinds ≤ 255 → t.transitions ≤ 255 → is_version 1 table_versions t.version ≡ false → Writes (write_table t room) (Err TableVersion) room
  unfolding scan_with
  write-version room h k e = refused_scan room TableVersion (rw (frame_is (body_most h k), e))

  -- 12
  pub write-early : (room : List ℕ) → t.kinds ≤ 255 → t.transitions ≤ 255 → is_version 1 table_versions t.version ≡ true
      → (why : Refusal) → counts_of t.states t.variables t.clocks t.kinds t.transitions ≡ Err why → Writes (write_table t room) (Err why) room
  unfolding scan_with
  write-early room h k version why e = let same : table_counts (table_bytes t) ≡ Err why = counts_same ∙ e in refused_scan room why (rw (frame_is (body_most h k), version, same))

  pub write-late : (room bytes : List ℕ) (answer : Reading) → bytes ≡ table_bytes t → answer ≡ table_writable t → (r : Writing) (after : List ℕ)
      → Writes (write answer bytes room) r after → Writes (write_table t room) r after
  unfolding write_table
  write-late room bytes answer e g r after w = rw (g, e) at w

  -- the answer from the scan of these bytes, and 16 and 17 of the parts themselves
  pub writable_by : length t.guards ≡ guard_limit * transition_limit → table_writable t ≡ and_then (scan_with t.devices (table_bytes t)) (whole_answer (monitor_of t))
  writable_by full = scan_all (table_bytes t) t.devices ∙ go (scan_with t.devices (table_bytes t)) refl
    where
      go : (scan : Reading) → scan_with t.devices (table_bytes t) ≡ scan → and_then scan (whole_answer (monitor_of (table_parts (table_bytes t)))) ≡ and_then scan (whole_answer (monitor_of t))
      go (Ok _) e = ap whole_answer (monitor_back t full e)
      go (Err why) e = refl
