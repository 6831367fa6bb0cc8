-- Laws of the shares and lines that are printed.
--     share_none, share_some                          the text of a share, by its lower number
--     percent_few, share_few, line_few                the most bytes that they have
-- Assumes nothing.
use mathlib.Core.Bool.{Bool, true, false}
use mathlib.Core.List.{List, [], ◌∷◌, ◌++◌}
use mathlib.Core.Path.{◌≡◌}
use Prim.Native.Nat.{ℕ, ◌+◌, ◌/◌, ◌≤◌}
use native.Mathlib.Omega.{arith}
use borrow.Author.Tests.{eq-eqb, ne_eqb}
use lib.Dec.{eqb}
use lib.ListN.{length, length-append}
use Rattle.bases.specs.Pick.{pick}
use Rattle.lines.proofs.FieldLaws.{field_few, fields_few}
use Rattle.lines.specs.Lines.{field, fields}
use Rattle.lot.specs.declared.answer.Lot.{Lot}
use Rattle.lot.specs.declared.share.Share.{Share}
use Rattle.fields.specs.Bytes.{LF, TAB}
use Rattle.lot_report.specs.Table.{no_share, SLASH, POINT, four_digits, percent, percent_most, share_text, share_most, line_text, line_most}

pub share_none : (s : Share) (end : ℕ) → s.bottom ≡ 0 → share_text s end ≡ no_share ++ (end ∷ [])
unfolding share_text
share_none s end e = rw (eq-eqb s.bottom 0 e)

-- A share whose lower number is not zero.
abbrev some : Share → ℕ → List ℕ
some s end = field s.top SLASH ++ field s.bottom TAB ++ field s.ppm TAB ++ percent s.ppm ++ (end ∷ [])

pub share_some : (s : Share) (end : ℕ) → (s.bottom ≡ 0 → ⊥)
    → share_text s end ≡ field s.top SLASH ++ field s.bottom TAB ++ field s.ppm TAB ++ percent s.ppm ++ (end ∷ [])
unfolding share_text
share_some s end h = rw (ne_eqb s.bottom 0 h)

pub percent_few : (ppm : ℕ) → length (percent ppm) ≤ percent_most
percent_few ppm = omega (arith, length-append (field (ppm / 10000) POINT) (four_digits ppm), field_few (ppm / 10000) POINT)

pub share_few : (s : Share) (end : ℕ) → length (share_text s end) ≤ share_most
unfolding share_text
share_few s end = go (eqb s.bottom 0)
  where
    go : (t : Bool) → length (pick t (no_share ++ (end ∷ [])) (some s end)) ≤ share_most
    go true = omega arith
    go false =
        let a = field s.top SLASH in
        let b = field s.bottom TAB in
        let d = field s.ppm TAB in
        let p = percent s.ppm in
        omega (
          arith,
          length-append (a ++ b ++ d ++ p) (end ∷ []),
          length-append (a ++ b ++ d) p,
          length-append (a ++ b) d,
          length-append a b,
          field_few s.top SLASH,
          field_few s.bottom TAB,
          field_few s.ppm TAB,
          percent_few s.ppm,
        )

pub line_few : (name : List ℕ) (l : Lot) → length (line_text name l) ≤ length name + line_most
unfolding line_text
line_few name l =
    let tab = TAB ∷ [] in
    let truth = fields l.truth l.total.matched1 l.total.undecided1 TAB in
    let called = fields l.called l.total.matched2 l.total.undecided2 TAB in
    let recall = share_text l.recall TAB in
    let precision = share_text l.precision LF in
    omega (
      arith,
      length-append (name ++ tab ++ truth ++ called ++ recall) precision,
      length-append (name ++ tab ++ truth ++ called) recall,
      length-append (name ++ tab ++ truth) called,
      length-append (name ++ tab) truth,
      length-append name tab,
      fields_few l.truth l.total.matched1 l.total.undecided1 TAB,
      fields_few l.called l.total.matched2 l.total.undecided2 TAB,
      share_few l.recall TAB,
      share_few l.precision LF,
    )
