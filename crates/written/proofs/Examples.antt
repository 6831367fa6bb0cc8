-- Examples 2 to 5 of document 01, and the N that a shift brings into ALT: the closed form computes each, so each is the normal form in document 01's words.
-- A list of three records, written: two come before the first, at one POS, in the order read.
-- Assumes nothing.
use mathlib.Core.List.Memᴰ
use mathlib.Core.List.{List, [], ◌∷◌, ◌++◌}
use mathlib.Core.Logic.{⊎_elim}
use mathlib.Core.Path.{◌≡◌, refl, subst}
use Prim.Native.Nat.{ℕ, ◌≤◌}
use lib.Dec.{lit≤}
use lib.ListN.{length}
use Rattle.bases.specs.Place.{place_of}
use Rattle.bases.specs.Letter.{letter_of, letter_among}
use Rattle.bases.specs.Same.{agree?}
use Rattle.fields.specs.Bytes.{TAB, COMMA, version_line, column_names, until}
use Rattle.vcf.specs.Entry.{header_bytes}
use Rattle.fields.specs.Field.{skip}
use Rattle.vcf.specs.List.{lines_of}
use Rattle.fields.specs.Pos.{is_pos?, all_digits?, value_from}
use Rattle.normal.specs.Form.{Form, OnReference, NoneEmpty, NormalForm}
use Rattle.normal.specs.Cut.{run, all?, shortest, normal_of}
use Rattle.normal.specs.Spelled.{normal_entry}
use Rattle.written.specs.Written.{record_of, digits_of, written_line, put_line, written_lines, text_of, written_text}
use Rattle.normal.proofs.NormalForm.{normal_exists}

abbrev pub A : ℕ
A = 65

abbrev pub C : ℕ
C = 67

abbrev pub G : ℕ
G = 71

abbrev pub N : ℕ
N = 78

abbrev pub T : ℕ
T = 84

-- An entry with one ALT.
abbrev pub entry : ℕ → List ℕ → List ℕ → Form
entry pos ref alt = record { start = place_of (record { 0 = pos }); ref = ref; alts = alt ∷ [] }

-- What the closed form computes is the normal form.
computed : (r : List ℕ) (pos : ℕ) (ref alt : List ℕ) (g : Form) → OnReference r (entry pos ref alt) → 1 ≤ length ref → 1 ≤ length alt → normal_of r (entry pos ref alt) ≡ g
    → NormalForm r (entry pos ref alt) g
computed r pos ref alt g on h k e = subst (NormalForm r (entry pos ref alt)) e (normal_exists r (entry pos ref alt) on some)
  where
    some : NoneEmpty (entry pos ref alt)
    some a m =
        ⊎_elim (λ d. rw d h) (λ n. ⊎_elim (λ d. rw d k) (λ o. absurd (Memᴰ.not-nil o)) (Memᴰ.cases_cons n)) (Memᴰ.cases_cons m)

-- 2. GCATATG, POS 4 TAT to T: normal POS 2, CAT to C.
pub example_2 : NormalForm (G ∷ C ∷ A ∷ T ∷ A ∷ T ∷ G ∷ []) (entry 4 (T ∷ A ∷ T ∷ []) (T ∷ [])) (entry 2 (C ∷ A ∷ T ∷ []) (C ∷ []))
unfolding normal_of run all? shortest
example_2 = computed _ 4 _ _ _ (lit≤ tt, refl) (lit≤ tt) (lit≤ tt) refl

-- 3. AACG, POS 2 AC to C: normal POS 1, AA to A.
pub example_3 : NormalForm (A ∷ A ∷ C ∷ G ∷ []) (entry 2 (A ∷ C ∷ []) (C ∷ [])) (entry 1 (A ∷ A ∷ []) (A ∷ []))
unfolding normal_of run all? shortest
example_3 = computed _ 2 _ _ _ (lit≤ tt, refl) (lit≤ tt) (lit≤ tt) refl

-- 4. ACG, POS 1 AC to C: normal already.
pub example_4 : NormalForm (A ∷ C ∷ G ∷ []) (entry 1 (A ∷ C ∷ []) (C ∷ [])) (entry 1 (A ∷ C ∷ []) (C ∷ []))
unfolding normal_of run all? shortest
example_4 = computed _ 1 _ _ _ (lit≤ tt, refl) (lit≤ tt) (lit≤ tt) refl

-- 5. ACG, POS 1 ACG to ACT: normal POS 3, G to T.
pub example_5 : NormalForm (A ∷ C ∷ G ∷ []) (entry 1 (A ∷ C ∷ G ∷ []) (A ∷ C ∷ T ∷ [])) (entry 3 (G ∷ []) (T ∷ []))
unfolding normal_of run all? shortest
example_5 = computed _ 1 _ _ _ (lit≤ tt, refl) (lit≤ tt) (lit≤ tt) refl

-- CNAAG, POS 3 AA to A: normal POS 2, NA to N.
pub example_N : NormalForm (C ∷ N ∷ A ∷ A ∷ G ∷ []) (entry 3 (A ∷ A ∷ []) (A ∷ [])) (entry 2 (N ∷ A ∷ []) (N ∷ []))
unfolding normal_of run all? shortest
example_N = computed _ 3 _ _ _ (lit≤ tt, refl) (lit≤ tt) (lit≤ tt) refl

-- The lines of a list on GGGGGGGGGCATATG: the header, and records at a POS with an ID, REF and ALT.
abbrev column : List ℕ
column = column_names ++ (83 ∷ [])

abbrev bases : List ℕ
bases = G ∷ G ∷ G ∷ G ∷ G ∷ G ∷ G ∷ G ∷ G ∷ C ∷ A ∷ T ∷ A ∷ T ∷ G ∷ []

-- `.` for QUAL, FILTER and INFO, `GT`, and the genotype 1/1
abbrev rest : List ℕ
rest = 46 ∷ TAB ∷ 46 ∷ TAB ∷ 46 ∷ TAB ∷ 71 ∷ 84 ∷ TAB ∷ 49 ∷ 47 ∷ 49 ∷ []

abbrev line : List ℕ → ℕ → List ℕ → List ℕ → List ℕ
line pos id ref alt = record_of (49 ∷ []) pos (id ∷ []) ref alt rest

-- POS 11 A to G (ID a), POS 12 TAT to T (b), POS 12 TAT to T and TATAT (c): b and c come to POS 10, before a.
pub example_written :
    written_text bases
    (text_of (version_line
    ∷ column
    ∷ line (49 ∷ 49 ∷ []) 97 (A ∷ []) (G ∷ [])
    ∷ line (49 ∷ 50 ∷ []) 98 (T ∷ A ∷ T ∷ []) (T ∷ [])
    ∷ line (49 ∷ 50 ∷ []) 99 (T ∷ A ∷ T ∷ []) (T ∷ COMMA ∷ T ∷ A ∷ T ∷ A ∷ T ∷ [])
    ∷ []))
    ≡ text_of (version_line
    ∷ column
    ∷ line (49 ∷ 48 ∷ []) 98 (C ∷ A ∷ T ∷ []) (C ∷ [])
    ∷ line (49 ∷ 48 ∷ []) 99 (C ∷ A ∷ T ∷ []) (C ∷ COMMA ∷ C ∷ A ∷ T ∷ A ∷ T ∷ [])
    ∷ line (49 ∷ 49 ∷ []) 97 (A ∷ []) (G ∷ [])
    ∷ [])
unfolding written_text text_of written_lines put_line written_line digits_of normal_entry run all? shortest header_bytes lines_of skip until is_pos? all_digits? value_from agree? letter_of letter_among
example_written = refl
