-- The rows of an accepted verdict, read back from the room that the witness was written into, are the preferred ones.
use Prim.Native.Nat.{ℕ, zero, suc, ◌+◌, ◌*◌, ◌≤◌, ◌<◌}
use native.Mathlib.Omega.{arith}
use mathlib.Core.Path.{◌≡◌, refl, sym, ap, subst, ◌∙◌}
use mathlib.Core.List.{List, [], ◌∷◌, ◌++◌, Memᴰ}
use Rattle.std.specs.Prelude.{Some, slice_get, Ok, Err}
use Rattle.std.proofs.lemmas.Option.{none-some}
use lib.ListN.{length, take, drop, get_or-append, length-append}
use borrow.Author.Tests.{lt-ltb, le-ltb, le-leb, lt-leb}
use Rattle.model.specs.Edition.{most_rows, latest_time}
use Rattle.model.specs.Bytes.{tab}
use Rattle.model.specs.Numbers.{refusal_values}
use Rattle.model.specs.Room.{over}
use Rattle.model.specs.Table.{monitor_at}
use Rattle.model.specs.Recording.{packets_at, recording_answer, SoundRecording, end_of}
use Rattle.model.specs.Witness.{Row, row_at, rows_at, witness_count_at, witness_bytes}
use Rattle.model.specs.Order.{Preferred}
use Rattle.model.specs.Claims.{Judged}
use Rattle.model.specs.Validation.{preferred, verdict, validation_of, refusal, validation, room_by, room_left, scratch_after, room_after}
use Rattle.model.specs.Desk.{files_in, table_length, table_in, recording_in, budget_in, line, accepted_word, exhausted_word, refused_word, row_lines, verdict_lines, judged_lines, lines_for, scratch_for, room_for}
use Rattle.model.specs.declared.Edition.TheVariants.{One}
use Rattle.model.specs.First.{Reading, Validating, read_as}
use Rattle.model.specs.declared.Verdict.{Verdict}
use Rattle.model.specs.declared.Verdict.TheVariants.{Accepted, Rejected, Exhausted}
use Rattle.model.proofs.Basics.{length-tab}
use Rattle.model.proofs.Places.{tab-same}
use Rattle.model.proofs.WitnessForm.{witness_back_lem, witness_length}
use Rattle.model.proofs.Judgement.{sound-judged}
use Rattle.model.proofs.LongRecordings.{unrefused}
use Rattle.text.specs.Put.{Wrote, rows_standing}
use Rattle.text.proofs.Stores.{wrote_front}
use Rattle.text.proofs.Digits.{line-length, rejected-length}
use Rattle.text.proofs.Rows.{rows-length}
use Rattle.lines.specs.Written.{FilesJudged, Lines}

-- rows that a witness can hold
pub record Fitting (rows : List Row) : Type 0 where
  pub few : length rows ≤ most_rows One
  pub times : (i : ℕ) (r : Row) → slice_get rows i ≡ Some r → r.time < 65536

row_before : (b rest : List ℕ) (i : ℕ) → 9 + 5 * i < length b → row_at One (b ++ rest) i ≡ row_at One b i
unfolding row_at
row_before b rest i h j =
    record {
      mark = get_or-append b rest 0 (5 + 5 * i) (omega arith) j;
      time = 256 * get_or-append b rest 0 (5 + 5 * i + 1) (omega arith) j + get_or-append b rest 0 (5 + 5 * i + 1 + 1) (omega arith) j;
      kind = get_or-append b rest 0 (5 + 5 * i + 3) (omega arith) j;
      transition = get_or-append b rest 0 (5 + 5 * i + 4) (omega arith) j;
    }

-- rows written over a room and read back
pub rows_back : (rows : List Row) (room : List ℕ) → Fitting rows → tab (row_at One (over (witness_bytes One rows) room)) (length rows) ≡ rows
rows_back rows room fit =
    let b : List ℕ = witness_bytes One rows in
    let back : rows_at One b ≡ rows = witness_back_lem One rows fit.few fit.times in
    let n : witness_count_at One b ≡ length rows = sym (length-tab (row_at One b) (witness_count_at One b)) ∙ ap length back in
    tab-same (row_at One (over b room)) (row_at One b) (length rows) (λ i h. row_before b (drop (length b) room) i (omega (arith, witness_length One rows)))
    ∙ ap (tab (row_at One b)) (sym n)
    ∙ back

-- what the lines of a verdict need of its witness
abbrev pub Holds : Validating → List Row → Type 0
Holds (Ok (Accepted cost n)) rows = (n ≡ length rows) × Fitting rows
Holds (Ok (Rejected cost instant not_yet no_more)) rows = Unit {0}
Holds (Ok (Exhausted budget instant)) rows = Unit {0}
Holds (Err r) rows = Unit {0}

pub lines_back : (v : Validating) (rows : List Row) (room : List ℕ) → Holds v rows
    → verdict_lines v (rows_standing v (room_by v (witness_bytes One rows) room)) ≡ verdict_lines v rows
unfolding verdict_lines
lines_back (Ok (Accepted cost n)) rows room (e, fit) =
    let few : n ≤ most_rows One = omega (arith, fit.few) in
    rw (le-leb _ _ few) (ap (verdict_lines (Ok (Accepted cost n))) (ap (tab (row_at One (over (witness_bytes One rows) room))) e ∙ rows_back rows room fit))
lines_back (Ok (Rejected cost instant not_yet no_more)) rows room h = refl
lines_back (Ok (Exhausted budget instant)) rows room h = refl
lines_back (Err r) rows room h = refl

-- the lines of a verdict fit the program's text
lines_fit : (v : Validating) (rows : List Row) → Holds v rows → length (verdict_lines v rows) ≤ 400000
unfolding verdict_lines
lines_fit (Ok (Accepted cost n)) rows (e, fit) =
    omega (
      arith,
      length-append (line accepted_word cost n) (row_lines rows),
      line-length accepted_word cost n,
      rows-length rows,
      fit.few,
    )
lines_fit (Ok (Rejected cost instant not_yet no_more)) rows h = omega (arith, rejected-length cost instant not_yet no_more)
lines_fit (Ok (Exhausted budget instant)) rows h = omega (arith, line-length exhausted_word budget instant)
lines_fit (Err r) rows h = omega (arith, line-length refused_word (refusal_values r).number (refusal_values r).second)

-- the preferred witness fits
member : (rows : List Row) (i : ℕ) (r : Row) → slice_get rows i ≡ Some r → Memᴰ r rows
member [] i r e = absurd (none-some r e)
member (x ∷ rows) zero r e = let h : r ≡ x = cc in Memᴰ.head h
member (x ∷ rows) (suc i) r e = Memᴰ.tail (member rows i r e)

module _ (table recording : List ℕ) (sound : SoundRecording table recording) (early : end_of (packets_at recording) ≤ latest_time One) (budget : ℕ) where
  abbrev rows : List Row
  rows = preferred (monitor_at table) (packets_at recording)

  fitting : Preferred One (monitor_at table) (packets_at recording) rows → Fitting rows
  fitting p =
      record {
        few = p.permitted.fits;
        times = λ i r e. let h = p.ends r (member rows i r e) in omega arith;
      }

  by_verdict : (v : Verdict) → Judged One (monitor_at table) (packets_at recording) budget v → Holds (Ok v) rows
  by_verdict (Accepted cost n) j = (j.valued.1, fitting (j.witnessed tt))
  by_verdict (Rejected cost instant not_yet no_more) j = tt
  by_verdict (Exhausted limit instant) j = tt

  verdict-holds : Holds (Ok (verdict (monitor_at table) (packets_at recording) budget)) rows
  verdict-holds = by_verdict (verdict (monitor_at table) (packets_at recording) budget) (sound-judged One table recording sound early budget)

pub validation-holds : (table recording : List ℕ) (budget scratch_length room_length : ℕ)
    → Holds (validation One table recording budget scratch_length room_length) (preferred (monitor_at table) (packets_at recording))
unfolding validation_of
validation-holds table recording budget scratch_length room_length = by (refusal One table recording scratch_length room_length) refl
  where
    by : (x : Reading) → refusal One table recording scratch_length room_length ≡ x
        → Holds (read_as x (verdict (monitor_at table) (packets_at recording) budget)) (preferred (monitor_at table) (packets_at recording))
    by (Ok _) e =
        let (sound, early) = unrefused (recording_answer table recording) One (monitor_at table) (packets_at recording) scratch_length room_length e in
        verdict-holds table recording sound early budget
    by (Err r) e = tt

-- the lines of a validation, with its rows read back from the room that it left
pub judged-back : (table recording : List ℕ) (budget : ℕ) (scratch room : List ℕ) →
    let v : Validating = validation One table recording budget (length scratch) (length room) in
    verdict_lines v (rows_standing v (room_after One table recording budget scratch room)) ≡ judged_lines (length scratch) (length room) table recording budget
unfolding judged_lines room_left
judged-back table recording budget scratch room =
    lines_back (validation One table recording budget (length scratch) (length room)) (preferred (monitor_at table) (packets_at recording)) room
    (validation-holds table recording budget (length scratch) (length room))

judged_fit : (scratch_length room_length : ℕ) (table recording : List ℕ) (budget : ℕ) → length (judged_lines scratch_length room_length table recording budget) ≤ 400000
unfolding judged_lines
judged_fit scratch_length room_length table recording budget =
    lines_fit (validation One table recording budget scratch_length room_length) (preferred (monitor_at table) (packets_at recording))
    (validation-holds table recording budget scratch_length room_length)

module _ (files table recording : List ℕ) (budget : ℕ) (scratch room : List ℕ) where
  -- a validation of the files' two parts, and its verdict written
  pub judging : {text scratch_left room_left text_left : List ℕ} {v : Validating} {next : ℕ} →
      table ≡ take (table_length files) files → recording ≡ drop (table_length files) files →
      v ≡ validation One table recording budget (length scratch) (length room) →
      scratch_left ≡ scratch_after One table recording budget scratch room → room_left ≡ room_after One table recording budget scratch room →
      Wrote (verdict_lines v (rows_standing v room_left)) 0 text text_left next →
      FilesJudged files budget scratch room text scratch_left room_left text_left next
  judging {text} {scratch_left} {room_left} {text_left} {v} {next} t r e s l w =
      let same : (A : List ℕ → List ℕ → Type 0) → A table recording → A (take (table_length files) files) (drop (table_length files) files) =
      λ A x. subst (λ (q : List ℕ). A (take (table_length files) files) q) r (subst (λ (q : List ℕ). A q recording) t x)
      in
      record {
        wrote =
            same (λ q p. Wrote (judged_lines (length scratch) (length room) q p budget) 0 text text_left next)
            (subst (λ (bytes : List ℕ). Wrote bytes 0 text text_left next)
            (ap (λ (x : Validating). verdict_lines x (rows_standing x room_left)) e
            ∙ ap (λ (x : List ℕ). verdict_lines (validation One table recording budget (length scratch) (length room)) (rows_standing (validation One table recording budget (length scratch) (length room)) x)) l
            ∙ judged-back table recording budget scratch room)
            w);
        scratch_after = same (λ q p. scratch_left ≡ scratch_after One q p budget scratch room) s;
        room_after = same (λ q p. room_left ≡ room_after One q p budget scratch room) l;
      }

-- the three ways of an input
module _ (input scratch room : List ℕ) {text text_left : List ℕ} {n : ℕ} where
  pub lines_short : length input < 4 → Wrote (line refused_word 5 0) 0 text text_left n → Lines input scratch room text scratch room text_left n
  unfolding lines_for scratch_for room_for
  lines_short h w =
      record {
        count = rw (lt-ltb _ _ h, lines_for) (wrote_front w).0;
        short = omega (arith, (wrote_front w).0, line-length refused_word 5 0);
        text_after = rw (lt-ltb _ _ h, lines_for) (wrote_front w).1;
        scratch_after = rw (lt-leb _ _ h);
        room_after = rw (lt-leb _ _ h);
      }

  pub lines_long : 8192 < length input → Wrote (line refused_word 6 0) 0 text text_left n → Lines input scratch room text scratch room text_left n
  unfolding lines_for scratch_for room_for
  lines_long h w =
      let four : 4 ≤ length input = omega arith in
      record {
        count = rw (le-ltb _ _ four, lt-ltb _ _ h, lines_for) (wrote_front w).0;
        short = omega (arith, (wrote_front w).0, line-length refused_word 6 0);
        text_after = rw (le-ltb _ _ four, lt-ltb _ _ h, lines_for) (wrote_front w).1;
        scratch_after = rw (le-leb _ _ four, lt-leb _ _ h);
        room_after = rw (le-leb _ _ four, lt-leb _ _ h);
      }

  pub lines_judged : {files scratch_left room_left : List ℕ} {budget : ℕ} → 4 ≤ length input → length input ≤ 8192 → files ≡ files_in input → budget ≡ budget_in input →
      FilesJudged files budget scratch room text scratch_left room_left text_left n → Lines input scratch room text scratch_left room_left text_left n
  unfolding lines_for scratch_for room_for
  lines_judged {files} {scratch_left} {room_left} {budget} four most f b judged =
      let j : FilesJudged (files_in input) (budget_in input) scratch room text scratch_left room_left text_left n =
      subst (λ (l : List ℕ). FilesJudged l (budget_in input) scratch room text scratch_left room_left text_left n) f
      (subst (λ (k : ℕ). FilesJudged files k scratch room text scratch_left room_left text_left n) b judged)
      in
      record {
        count = rw (le-ltb _ _ four, le-ltb _ _ most, lines_for) (wrote_front j.wrote).0;
        short = omega (arith, (wrote_front j.wrote).0, judged_fit (length scratch) (length room) (table_in input) (recording_in input) (budget_in input));
        text_after = rw (le-ltb _ _ four, le-ltb _ _ most, lines_for) (wrote_front j.wrote).1;
        scratch_after = rw (le-leb _ _ four, le-leb _ _ most) j.scratch_after;
        room_after = rw (le-leb _ _ four, le-leb _ _ most) j.room_after;
      }
