-- What sound recording bytes ensure of their rows and of the packets that they record, and the round trips between bytes and parts.
use Prim.Native.Nat.{ℕ, zero, suc, ◌+◌, ◌-◌, ◌*◌, ◌<◌, ◌≤◌}
use native.Mathlib.Decide.{ℕ_discrete}
use native.Mathlib.Omega.{arith}
use mathlib.Core.Path.{◌≡◌, refl, sym, ap, ◌∙◌}
use mathlib.Core.List.{List, [], ◌∷◌, ◌++◌}
use mathlib.Core.Bool.{true}
use lib.ListN.{length, get_or}
use lib.Dec.{leb, ltb}
use borrow.Author.Tests.{ltb-true}
use Rattle.model.specs.Limits.{row_limit, time_limit}
use Rattle.model.specs.Bytes.{byte_at, word_bytes, tab, joined}
use Rattle.model.specs.First.{unless, first_of, Reading}
use Rattle.model.specs.Monitor.{Monitor, airtime}
use Rattle.model.specs.Trace.{Packet, Spaced}
use Rattle.model.specs.Table.{table_answer, kinds_at, SoundTable, monitor_at}
use Rattle.model.specs.Recording.{count_at, time_at, row_kind_at, clear_of_before, recorded_row, recorded_rows, recording_frame, recording_scan, recording_answer, recording_parts, SoundRecording, packets_of, packets_at, end_of, recorded_bytes, recording_bytes}
use Rattle.model.specs.Same.{SameRecording, RecordingZero}
use Rattle.model.specs.declared.RecordingParts.{RecordingParts}
use Rattle.model.specs.declared.Edition.TheVariants.{One}
use Rattle.std.specs.Prelude.{Ok}
use Rattle.model.specs.declared.Refusal.TheVariants.{RecordingFrame, RecordingVersion, RecordingCount, RecordingRange, RecordingOrder}
use Rattle.model.proofs.Basics.{unless-sound, length-tab}
use Rattle.model.specs.Sane.{SaneRecording}
use Rattle.model.proofs.Tests.{test, le_test, lt_test, FramedRows, rows_facts}
use Rattle.model.proofs.Places.{AllBytes, Stands, stands_nil, stands_cons, stands-left, stands-append, stands-moved, stands_self, stands-whole, word_at_lem, word_back, get_or_column, get_or_column_past, stands-joined, joined-stands, length-joined, tab-same, tab_cons}
use Rattle.model.proofs.EditionLaws.{stands_headed, headed_count, headed_rows}

-- row i
pub record SoundRow (table b : List ℕ) (i : ℕ) : Type 0 where
  pub some : 1 ≤ time_at b i
  pub last : time_at b i ≤ time_limit
  pub kind : row_kind_at b i < kinds_at table
  pub clear : clear_of_before table b i ≡ true

sound_row : (table b : List ℕ) (i : ℕ) → recorded_row table b i ≡ Ok tt → SoundRow table b i
unfolding recorded_row
sound_row table b i e =
    let l : List Reading =
    unless (leb 1 (time_at b i)) (RecordingRange i)
    ∷ unless (leb (time_at b i) time_limit) (RecordingRange i)
    ∷ unless (ltb (row_kind_at b i) (kinds_at table)) (RecordingRange i)
    ∷ unless (clear_of_before table b i) (RecordingOrder i)
    ∷ []
    in
    record {
      some = le_test _ _ (RecordingRange i) (test l e 0);
      last = le_test _ _ (RecordingRange i) (test l e 1);
      kind = lt_test _ _ (RecordingRange i) (test l e 2);
      clear = unless-sound (clear_of_before table b i) (RecordingOrder i) (test l e 3);
    }

rows-sound : (n : ℕ) (table b : List ℕ) (i k : ℕ) → recorded_rows n table b i ≡ Ok tt → i ≤ k → k < i + n → SoundRow table b k
unfolding recorded_rows
rows-sound zero table b i k e p q = absurd (omega arith)
rows-sound (suc n) table b i k e p q =
    let l : List Reading = recorded_row table b i ∷ recorded_rows n table b (suc i) ∷ [] in
    split (ℕ_discrete i k) (test l e 0) (λ r. rows-sound n table b (suc i) k (test l e 1) r (omega arith))
  where
    split : Dec (i ≡ k) → recorded_row table b i ≡ Ok tt → (suc i ≤ k → SoundRow table b k) → SoundRow table b k
    split (yes s) here again = sound_row table b k (rw s at here)
    split (no s) here again = again (omega arith)

-- all that a sound recording ensures of its bytes
pub record RecordingFacts (table b : List ℕ) : Type 0 where
  pub sound : SoundTable table
  pub rows : FramedRows One b 3 row_limit
  pub row : (i : ℕ) → i < count_at b → SoundRow table b i

pub recording_facts : (table b : List ℕ) → SoundRecording table b → RecordingFacts table b
unfolding recording_answer recording_scan recording_frame
recording_facts table b e =
    let all : List Reading = table_answer table ∷ recording_scan table b ∷ [] in
    let l : List Reading = recording_frame b ∷ recorded_rows (count_at b) table b 0 ∷ [] in
    let s : first_of l ≡ Ok tt = test all e 1 in
    record {
      sound = test all e 0;
      rows = rows_facts One b 3 row_limit RecordingFrame RecordingVersion RecordingCount (test l s 0);
      row = λ i h. rows-sound (count_at b) table b 0 i (test l s 1) (omega arith) (omega arith);
    }

pub sound_table : (table b : List ℕ) → SoundRecording table b → SoundTable table
sound_table table b e = (recording_facts table b e).sound

-- row i, as a packet
abbrev pub packet_at : List ℕ → ℕ → Packet
packet_at b i = record { time = time_at b i; kind = row_kind_at b i }

pub packets-tab : (b : List ℕ) → packets_at b ≡ tab (packet_at b) (count_at b)
unfolding packets_of recording_parts
packets-tab b = tab-same _ (packet_at b) (count_at b) (λ i h j. record { time = get_or_column row_limit (time_at b) (count_at b) i h j; kind = get_or_column row_limit (row_kind_at b) (count_at b) i h j })

module _ (m : Monitor) where
  spaced-tab :
      (n : ℕ) (f : ℕ → Packet) → ((i : ℕ) → i < n → airtime m (f i).kind < (f (suc i)).time - (f i).time) → Spaced m (f 0) (tab (λ i. f (suc i)) n)
  unfolding tab
  spaced-tab zero f h = tt
  spaced-tab (suc n) f h =
      rw (tab_cons (λ i. f (suc i)) n) (h 0 (omega arith), spaced-tab n (λ i. f (suc i)) (λ i p. h (suc i) (omega arith)))

end_of_snoc : (l : List Packet) (p : Packet) → end_of (l ++ (p ∷ [])) ≡ p.time
unfolding end_of
end_of_snoc [] p = refl
end_of_snoc (q ∷ []) p = refl
end_of_snoc (q ∷ r ∷ l) p = end_of_snoc (r ∷ l) p

module _ (table b : List ℕ) where
  -- a row's packet is off the air when the next begins
  clear_of : (i : ℕ) → SoundRow table b (suc i) → airtime (monitor_at table) (row_kind_at b i) < time_at b (suc i) - time_at b i
  unfolding clear_of_before
  clear_of i r =
      let h : time_at b i + airtime (monitor_at table) (row_kind_at b i) < time_at b (suc i) = ltb-true _ _ r.clear in
      less (time_at b i) (airtime (monitor_at table) (row_kind_at b i)) (time_at b (suc i)) h
    where
      less : (x a y : ℕ) → x + a < y → a < y - x
      less x a y h = omega arith

  sane-rows : (n : ℕ) → n ≤ row_limit → ((i : ℕ) → i < n → SoundRow table b i) → SaneRecording (monitor_at table) (tab (packet_at b) n)
  unfolding tab end_of
  sane-rows zero h rows = record { trace = tt; few = omega arith; last = omega arith }
  sane-rows (suc n) h rows =
      record {
        trace = rw (tab_cons (packet_at b) n) ((rows 0 (omega arith)).some, spaced-tab (monitor_at table) n (packet_at b) (λ i p. clear_of i (rows (suc i) (omega arith))));
        few = rw (length-tab (packet_at b) (suc n)) h;
        last = rw (end_of_snoc (tab (packet_at b) n) (packet_at b n)) (rows n (omega arith)).last;
      }

  pub sane_recording : SoundRecording table b → SaneRecording (monitor_at table) (packets_at b)
  sane_recording e =
      let facts : RecordingFacts table b = recording_facts table b e in
      rw (packets-tab b) (sane-rows (count_at b) facts.rows.count facts.row)

-- Round trips

rows-length : (r : RecordingParts) (n : ℕ) → length (joined (recorded_bytes r.times r.kinds) n) ≡ 3 * n
rows-length r n = length-joined (recorded_bytes r.times r.kinds) 3 n (λ i h. refl)

pub recording_length : (r : RecordingParts) → length (recording_bytes r) ≡ 5 + 3 * r.count
unfolding recording_bytes
recording_length r = omega (arith, rows-length r r.count)

-- written again, the parts of sound bytes are those bytes
pub recording_again : (table b : List ℕ) → AllBytes b → SoundRecording table b → recording_bytes (recording_parts b) ≡ b
unfolding recording_bytes recording_parts
recording_again table b all e =
    let facts : RecordingFacts table b = recording_facts table b e in
    let r : RecordingParts = recording_parts b in
    stands-whole b (recording_bytes r) (omega (arith, recording_length r))
    (stands_headed b One (3 + 3 * count_at b) (count_at b) (joined (recorded_bytes r.times r.kinds) (count_at b))
    (word_at_lem b 0 (3 + 3 * count_at b) all facts.rows.sized) facts.rows.version (word_at_lem b 3 (count_at b) all refl)
    (stands-joined (recorded_bytes r.times r.kinds) b 5 (count_at b) (λ i h. row i h (omega (arith, rows-length r i)))))
  where
    row : (i : ℕ) → i < count_at b → {at : ℕ} → 5 + 3 * i ≡ at → Stands b at (recorded_bytes (recording_parts b).times (recording_parts b).kinds i)
    row i h {at} p =
        let time : ℕ = byte_at (recording_parts b).times i in
        let kind : ℕ = byte_at (recording_parts b).kinds i in
        stands-moved b (5 + 3 * i) at (recorded_bytes (recording_parts b).times (recording_parts b).kinds i) p
        (stands-append b (5 + 3 * i) (word_bytes time) (kind ∷ [])
        (word_at_lem b (5 + 3 * i) time all (sym (get_or_column row_limit (time_at b) (count_at b) i h)))
        (stands_cons b (5 + 3 * i + 2) kind [] (ap (λ (k : ℕ). get_or b k 0) (omega arith) ∙ sym (get_or_column row_limit (row_kind_at b) (count_at b) i h)) (stands_nil b (5 + 3 * i + 2 + 1))))

-- the bytes of parts, read
module _ (r : RecordingParts) (few : r.count ≤ row_limit) (times : (i : ℕ) → i < r.count → byte_at r.times i < 65536) where
  written_count : count_at (recording_bytes r) ≡ r.count
  unfolding recording_bytes
  written_count =
      word_back (recording_bytes r) 3 r.count (omega arith)
      (headed_count (recording_bytes r) One (3 + 3 * r.count) r.count (joined (recorded_bytes r.times r.kinds) r.count) (stands_self (recording_bytes r)))

  written_row : (i : ℕ) → i < r.count → Stands (recording_bytes r) (5 + 3 * i) (recorded_bytes r.times r.kinds i)
  unfolding recording_bytes
  written_row i h =
      let b : List ℕ = recording_bytes r in
      let e : 5 + length (joined (recorded_bytes r.times r.kinds) i) ≡ 5 + 3 * i = omega (arith, rows-length r i) in
      stands-moved b (5 + length (joined (recorded_bytes r.times r.kinds) i)) (5 + 3 * i) (recorded_bytes r.times r.kinds i) e
      (joined-stands (recorded_bytes r.times r.kinds) b 5 r.count i h (headed_rows b One (3 + 3 * r.count) r.count (joined (recorded_bytes r.times r.kinds) r.count) (stands_self b)))

  written-time : (i : ℕ) → i < r.count → time_at (recording_bytes r) i ≡ byte_at r.times i
  written-time i h =
      word_back (recording_bytes r) (5 + 3 * i) (byte_at r.times i) (times i h)
      (stands-left (recording_bytes r) (5 + 3 * i) (word_bytes (byte_at r.times i)) (byte_at r.kinds i ∷ []) (written_row i h))

  written-kind : (i : ℕ) → i < r.count → row_kind_at (recording_bytes r) i ≡ byte_at r.kinds i
  written-kind i h =
      ap (λ (k : ℕ). get_or (recording_bytes r) k 0) (omega arith) ∙ written_row i h 2 (omega arith)

-- what is read of written parts is the same
pub recording_back_lem :
    (r : RecordingParts) → r.count ≤ row_limit → ((i : ℕ) → i < r.count → byte_at r.times i < 65536)
    → SameRecording (recording_parts (recording_bytes r)) r
unfolding recording_parts
recording_back_lem r few times =
    let b : List ℕ = recording_bytes r in
    let n : count_at b ≡ r.count = written_count r few times in
    record {
      count = n;
      times = λ i h. get_or_column row_limit (time_at b) (count_at b) i (rw n h) ∙ written-time r few times i h;
      kinds = λ i h. get_or_column row_limit (row_kind_at b) (count_at b) i (rw n h) ∙ written-kind r few times i h;
    }

pub recording_zero : (b : List ℕ) → RecordingZero (recording_parts b)
unfolding recording_parts
recording_zero b = record { times = get_or_column_past row_limit (time_at b) (count_at b); kinds = get_or_column_past row_limit (row_kind_at b) (count_at b) }

-- the bytes of parts record their packets
pub packets-back :
    (r : RecordingParts) → r.count ≤ row_limit → ((i : ℕ) → i < r.count → byte_at r.times i < 65536) → packets_at (recording_bytes r) ≡ packets_of r
unfolding packets_of
packets-back r few times =
    packets-tab (recording_bytes r)
    ∙ ap (λ (n : ℕ). tab (packet_at (recording_bytes r)) n) (written_count r few times)
    ∙ tab-same (packet_at (recording_bytes r)) (λ i. record { time = byte_at r.times i; kind = byte_at r.kinds i }) r.count
    (λ i h j. record { time = written-time r few times i h j; kind = written-kind r few times i h j })
