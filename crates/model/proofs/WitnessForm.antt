-- What sound witness bytes ensure, and the round trips between bytes, rows and parts.
use Prim.Native.Nat.{ℕ, zero, suc, ◌+◌, ◌*◌, ◌<◌, ◌≤◌}
use native.Mathlib.Omega.{arith}
use mathlib.Core.Path.{◌≡◌, refl, sym, ap, ap₂, subst, ◌∙◌}
use mathlib.Core.List.{List, [], ◌∷◌, ◌++◌, append_assoc, append-nil}
use Rattle.std.specs.Prelude.{Option, Some, None, slice_get, Ok}
use lib.ListN.{length, get_or, length-append}
use borrow.Author.Tests.{le-leb, eq-eqb}
use Rattle.model.specs.Limits.{witness_places}
use Rattle.model.specs.Bytes.{byte_at, word_at, word_bytes, tab, joined}
use Rattle.model.specs.Edition.{size_width, size_at, version_of, count_place, version_place, rows_place, most_rows}
use Rattle.model.specs.Frame.{framed, rows_size, framed_rows, rows_frame}
use Rattle.model.specs.Witness.{Row, misformed, Formed, witness_count_at, row_place, row_at, rows_at, bad_row, witness_frame, witness_answer, SoundForm, witness_parts, row_bytes, rows_bytes, witness_bytes, row_in, rows_in}
use Rattle.model.specs.Same.{SameWitness, WitnessZero}
use Rattle.model.specs.declared.Edition.{Edition}
use Rattle.model.specs.declared.WitnessParts.{WitnessParts}
use Rattle.model.specs.First.{Reading}
use Rattle.model.specs.declared.Refusal.TheVariants.{WitnessFrame, WitnessVersion, WitnessCount}
use Rattle.model.proofs.Basics.{length-tab}
use Rattle.std.proofs.lemmas.Option.{slice_get-get_or}
use Rattle.model.proofs.Tests.{test, then_sound, FramedRows, rows_facts}
use Rattle.model.proofs.Places.{AllBytes, Stands, stands_nil, stands_cons, stands-left, stands-right, stands-append, stands-moved, stands_self, stands-whole, word_at_lem, word_back, get_or_column, get_or_column_past, stands-joined, joined-stands, length-joined, tab-same, tab-get_or}
use Rattle.model.proofs.EditionLaws.{size_at_lem, size_back, rows_sizeable, frame_length, stands_headed, headed_size, headed_version, headed_count, headed_rows}

-- all that a witness in form ensures of its bytes
pub record WitnessFacts (edition : Edition) (b : List ℕ) : Type 0 where
  pub rows : FramedRows edition b 5 (most_rows edition)
  pub formed : Formed edition (rows_at edition b)

pub witness_facts : (edition : Edition) (b : List ℕ) → SoundForm edition b → WitnessFacts edition b
unfolding witness_answer witness_frame
witness_facts edition b e =
    let l : List Reading = witness_frame edition b ∷ bad_row (misformed edition None 0 (rows_at edition b)) ∷ [] in
    record {
      rows = rows_facts edition b 5 (most_rows edition) WitnessFrame (WitnessVersion (version_place edition)) (WitnessCount (count_place edition)) (test l e 0);
      formed = good (misformed edition None 0 (rows_at edition b)) (test l e 1);
    }
  where
    good : (x : Option ℕ) → bad_row x ≡ Ok tt → x ≡ None
    good None h = refl
    good (Some i) h = cc

-- the bytes of rows, one behind the other

pub rows_bytes-append : (a b : List Row) → rows_bytes (a ++ b) ≡ rows_bytes a ++ rows_bytes b
unfolding rows_bytes
rows_bytes-append [] b = refl
rows_bytes-append (r ∷ a) b = ap (λ (t : List ℕ). row_bytes r ++ t) (rows_bytes-append a b) ∙ sym (append_assoc (row_bytes r) (rows_bytes a) (rows_bytes b))

pub rows_bytes_snoc : (l : List Row) (r : Row) → rows_bytes (l ++ (r ∷ [])) ≡ rows_bytes l ++ row_bytes r
unfolding rows_bytes
rows_bytes_snoc l r = rows_bytes-append l (r ∷ []) ∙ ap (λ (t : List ℕ). rows_bytes l ++ t) (append-nil (row_bytes r))

rows_bytes-tab : (f : ℕ → Row) (n : ℕ) → rows_bytes (tab f n) ≡ joined (λ i. row_bytes (f i)) n
unfolding tab joined rows_bytes
rows_bytes-tab f zero = refl
rows_bytes-tab f (suc n) = rows_bytes_snoc (tab f n) (f n) ∙ ap (λ (t : List ℕ). t ++ row_bytes (f n)) (rows_bytes-tab f n)

rows-length : (f : ℕ → Row) (n : ℕ) → length (joined (λ i. row_bytes (f i)) n) ≡ 5 * n
rows-length f n = length-joined (λ i. row_bytes (f i)) 5 n (λ i h. refl)

witness_tab : (edition : Edition) (f : ℕ → Row) (n : ℕ) → witness_bytes edition (tab f n) ≡ rows_frame edition 5 n ++ joined (λ i. row_bytes (f i)) n
unfolding witness_bytes
witness_tab edition f n = ap₂ (λ (k : ℕ) (t : List ℕ). rows_frame edition 5 k ++ t) (length-tab f n) (rows_bytes-tab f n)

pub rows_bytes-length : (l : List Row) → length (rows_bytes l) ≡ 5 * length l
unfolding rows_bytes
rows_bytes-length [] = refl
rows_bytes-length (r ∷ l) = let again : length (rows_bytes l) ≡ 5 * length l = rows_bytes-length l in omega arith

pub witness_length : (edition : Edition) (l : List Row) → length (witness_bytes edition l) ≡ rows_place edition + 5 * length l
unfolding witness_bytes
witness_length edition l =
    length-append (rows_frame edition 5 (length l)) (rows_bytes l) ∙ ap₂ (λ (x y : ℕ). x + y) (frame_length edition 5 (length l)) (rows_bytes-length l)

-- from bytes to rows and back

stands-row :
    (b : List ℕ) (at : ℕ) (r : Row) → byte_at b at ≡ r.mark → Stands b (at + 1) (word_bytes r.time) → byte_at b (at + 3) ≡ r.kind
    → byte_at b (at + 4) ≡ r.transition → Stands b at (row_bytes r)
stands-row b at r p s q t =
    stands-append b at ((r.mark ∷ []) ++ word_bytes r.time) (r.kind ∷ r.transition ∷ [])
    (stands_cons b at r.mark (word_bytes r.time) p s)
    (stands_cons b (at + 3) r.kind (r.transition ∷ []) q (stands_cons b (at + 3 + 1) r.transition [] (ap (λ (k : ℕ). get_or b k 0) (omega arith) ∙ t) (stands_nil b (at + 3 + 1 + 1))))

row-stands : (edition : Edition) (b : List ℕ) (i : ℕ) → AllBytes b → Stands b (row_place edition i) (row_bytes (row_at edition b i))
unfolding row_at
row-stands edition b i all =
    stands-row b (row_place edition i) (row_at edition b i) refl (word_at_lem b (row_place edition i + 1) (word_at b (row_place edition i + 1)) all refl) refl refl

-- written again, the rows of sound bytes are those bytes
pub witness_again : (edition : Edition) (b : List ℕ) → AllBytes b → SoundForm edition b → witness_bytes edition (rows_at edition b) ≡ b
witness_again edition b all e =
    let rows = (witness_facts edition b e).rows in
    let n : ℕ = witness_count_at edition b in
    let bytes : List ℕ = joined (λ i. row_bytes (row_at edition b i)) n in
    let head : length (rows_frame edition 5 n) ≡ rows_place edition = frame_length edition 5 n in
    witness_tab edition (row_at edition b) n
    ∙ stands-whole b (rows_frame edition 5 n ++ bytes)
    (length-append (rows_frame edition 5 n) bytes ∙ omega (arith, rows-length (row_at edition b) n, rows.sized, rows.head.framed))
    (stands_headed b edition (rows_size edition 5 n) n bytes (size_at_lem edition b 0 (rows_size edition 5 n) all rows.sized) rows.version
    (size_at_lem edition b (count_place edition) n all refl)
    (stands-joined (λ i. row_bytes (row_at edition b i)) b (rows_place edition) n
    (λ i h. stands-moved b (row_place edition i) (rows_place edition + length (joined (λ i. row_bytes (row_at edition b i)) i)) (row_bytes (row_at edition b i)) (omega (arith, rows-length (row_at edition b) i))
    (row-stands edition b i all))))

column : (edition : Edition) (b : List ℕ) (i : ℕ) → i < witness_count_at edition b → row_in (witness_parts edition b) i ≡ row_at edition b i
unfolding witness_parts row_in row_at
column edition b i h j =
    record {
      mark = get_or_column witness_places (λ i. (row_at edition b i).mark) (witness_count_at edition b) i h j;
      time = get_or_column witness_places (λ i. (row_at edition b i).time) (witness_count_at edition b) i h j;
      kind = get_or_column witness_places (λ i. (row_at edition b i).kind) (witness_count_at edition b) i h j;
      transition = get_or_column witness_places (λ i. (row_at edition b i).transition) (witness_count_at edition b) i h j;
    }

pub witness_rows : (edition : Edition) (b : List ℕ) → rows_in (witness_parts edition b) ≡ rows_at edition b
unfolding witness_parts
witness_rows edition b = tab-same (row_in (witness_parts edition b)) (row_at edition b) (witness_count_at edition b) (column edition b)

-- the bytes of rows, read
module _ (edition : Edition) (f : ℕ → Row) (n : ℕ) (few : n ≤ most_rows edition) (times : (i : ℕ) → i < n → (f i).time < 65536) where
  abbrev bytes : List ℕ
  bytes = witness_bytes edition (tab f n)

  written : Stands bytes 0 (rows_frame edition 5 n ++ joined (λ i. row_bytes (f i)) n)
  written = subst (λ (l : List ℕ). Stands bytes 0 l) (witness_tab edition f n) (stands_self bytes)

  pub written_count : witness_count_at edition bytes ≡ n
  written_count =
      size_back edition bytes (count_place edition) n (rows_sizeable edition n few).0
      (headed_count bytes edition (rows_size edition 5 n) n (joined (λ i. row_bytes (f i)) n) written)

  written-bytes : (i : ℕ) → i < n → Stands bytes (row_place edition i) (row_bytes (f i))
  written-bytes i h =
      let e : rows_place edition + length (joined (λ i. row_bytes (f i)) i) ≡ row_place edition i = omega (arith, rows-length f i) in
      stands-moved bytes (rows_place edition + length (joined (λ i. row_bytes (f i)) i)) (row_place edition i) (row_bytes (f i)) e
      (joined-stands (λ i. row_bytes (f i)) bytes (rows_place edition) n i h (headed_rows bytes edition (rows_size edition 5 n) n (joined (λ i. row_bytes (f i)) n) written))

  pub written_row : (i : ℕ) → i < n → row_at edition bytes i ≡ f i
  unfolding row_at
  written_row i h =
      let at : ℕ = row_place edition i in
      let s : Stands bytes at (row_bytes (f i)) = written-bytes i h in
      let mark : byte_at bytes at ≡ (f i).mark = ap (λ (k : ℕ). get_or bytes k 0) (omega arith) ∙ s 0 (omega arith) in
      let time : word_at bytes (at + 1) ≡ (f i).time =
      word_back bytes (at + 1) (f i).time (times i h)
      (stands-right bytes at ((f i).mark ∷ []) (word_bytes (f i).time)
      (stands-left bytes at (((f i).mark ∷ []) ++ word_bytes (f i).time) ((f i).kind ∷ (f i).transition ∷ []) s))
      in
      let kind : byte_at bytes (at + 3) ≡ (f i).kind = s 3 (omega arith) in
      let transition : byte_at bytes (at + 4) ≡ (f i).transition = s 4 (omega arith) in
      λ j. record { mark = mark j; time = time j; kind = kind j; transition = transition j }

  pub written-rows : rows_at edition bytes ≡ tab f n
  written-rows = ap (λ (k : ℕ). tab (row_at edition bytes) k) written_count ∙ tab-same (row_at edition bytes) f n written_row

  -- what is written is framed as it should be, so its rows alone decide
  written_frame : witness_frame edition bytes ≡ Ok tt
  unfolding witness_frame framed_rows framed
  written_frame =
      let size : size_at edition bytes 0 ≡ rows_size edition 5 n =
      size_back edition bytes 0 (rows_size edition 5 n) (rows_sizeable edition n few).1 (headed_size bytes edition (rows_size edition 5 n) n (joined (λ i. row_bytes (f i)) n) written)
      in
      let version : byte_at bytes (version_place edition) ≡ version_of edition =
      headed_version bytes edition (rows_size edition 5 n) n (joined (λ i. row_bytes (f i)) n) written
      in
      let long : length bytes ≡ rows_place edition + 5 * n = witness_length edition (tab f n) ∙ ap (λ (k : ℕ). rows_place edition + 5 * k) (length-tab f n) in
      rw (
        size,
        version,
        written_count,
        le-leb (rows_place edition) (length bytes) (omega arith),
        eq-eqb (rows_size edition 5 n + size_width edition) (length bytes) (omega arith),
        le-leb (version_of edition) (version_of edition) (omega arith),
        le-leb n (most_rows edition) few,
        eq-eqb (rows_size edition 5 n) (rows_size edition 5 n) refl,
      )

  pub written-answer : witness_answer edition bytes ≡ bad_row (misformed edition None 0 (tab f n))
  unfolding witness_answer
  written-answer = rw (written_frame, written-rows) (then_sound (bad_row (misformed edition None 0 (tab f n))))

pub witness_back_lem :
    (edition : Edition) (rows : List Row) → length rows ≤ most_rows edition → ((i : ℕ) (r : Row) → slice_get rows i ≡ Some r → r.time < 65536)
    → rows_at edition (witness_bytes edition rows) ≡ rows
witness_back_lem edition rows few times =
    subst (λ (l : List Row). rows_at edition (witness_bytes edition l) ≡ l) (tab-get_or blank rows)
    (written-rows edition (λ i. get_or rows i blank) (length rows) few (λ i h. times i (get_or rows i blank) (slice_get-get_or rows i blank h)))
  where
    blank : Row
    blank = record { mark = 0; time = 0; kind = 0; transition = 0 }

-- what is read of written parts is the same
pub witness_parts_back :
    (edition : Edition) (w : WitnessParts) → w.count ≤ most_rows edition → ((i : ℕ) → i < w.count → byte_at w.times i < 65536)
    → SameWitness (witness_parts edition (witness_bytes edition (rows_in w))) w
unfolding row_in witness_parts
witness_parts_back edition w few times =
    let b : List ℕ = witness_bytes edition (rows_in w) in
    let n : witness_count_at edition b ≡ w.count = written_count edition (row_in w) w.count few times in
    let row : (i : ℕ) → i < w.count → row_in (witness_parts edition b) i ≡ row_in w i =
    λ i h. column edition b i (rw n h) ∙ written_row edition (row_in w) w.count few times i h
    in
    record {
      count = n;
      marks = λ i h. ap (λ (r : Row). r.mark) (row i h);
      times = λ i h. ap (λ (r : Row). r.time) (row i h);
      kinds = λ i h. ap (λ (r : Row). r.kind) (row i h);
      transitions = λ i h. ap (λ (r : Row). r.transition) (row i h);
    }

pub witness_zero : (edition : Edition) (b : List ℕ) → WitnessZero (witness_parts edition b)
unfolding witness_parts
witness_zero edition b =
    record {
      marks = get_or_column_past witness_places (λ i. (row_at edition b i).mark) (witness_count_at edition b);
      times = get_or_column_past witness_places (λ i. (row_at edition b i).time) (witness_count_at edition b);
      kinds = get_or_column_past witness_places (λ i. (row_at edition b i).kind) (witness_count_at edition b);
      transitions = get_or_column_past witness_places (λ i. (row_at edition b i).transition) (witness_count_at edition b);
    }
