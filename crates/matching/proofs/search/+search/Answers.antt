-- `matching::search::search` meets its contract. With none left the choices made are the answer where both copies have one donor; else the
-- three choices of the entry at n - left are tried in turn, each against the best so far, as the definition's step says. A choice that is
-- not tried could not change that: it overlaps, or no answer below it scores enough. After each the array stands as before. Assumes
-- nothing.
use mathlib.Core.Path.{refl, sym, ◌∙◌}
use native.Mathlib.Omega.{arith}
use Rattle.bases.proofs.TestLaws.{of_true}
use Rattle.donors.specs.Choice.{plus, minus, copy0, copy1}
use Rattle.matching.proofs.LastLaws.{made_apart, search_found, search_none}
use Rattle.matching.proofs.MadeLaws.{carried}
use Rattle.matching.proofs.MidwayLaws.{Went, tried, made_taken, went_taken, went_unfit, went_untried, made_skipped, went_skipped, went_unskipped, made_less, search_went}
use Rattle.matching.proofs.search.+search.Goals as goal
use Rattle.matching.proofs.search.+search.Goals.{then-fits, else-fits, then-is_tried, else-is_tried}
use Rattle.matching.proofs.search.+search.Goals.{else-donors_agree-via-then-donors_agree+else-donors_agree-2, else-donors_agree-via-else-donors_agree}

pub donors_agree-requires : goal.donors_agree-requires
donors_agree-requires t c = (c.requires.0, made_apart (carried c.requires) c.if-left-eq0.true copy0)

pub donors_agree-requires-then-donors_agree : goal.donors_agree-requires-then-donors_agree
donors_agree-requires-then-donors_agree t c = (c.requires.0, made_apart (carried c.requires) c.if-left-eq0.true copy1)

pub returns-then-donors_agree-2 : goal.returns-then-donors_agree-2
returns-then-donors_agree-2 t c =
    search_found (carried c.requires) c.if-left-eq0.true c.args.best c.requires.3 c.donors_agree.ensures c.if-donors_agree.true
    c.donors_agree-then-donors_agree.ensures c.if-donors_agree-2.true

pub returns-else-donors_agree : goal.returns-else-donors_agree
returns-else-donors_agree t c =
    let m = carried c.requires in
    let e = c.if-left-eq0.true in
    elim c.else-donors_agree.branch [
      | else-donors_agree-via-then-donors_agree+else-donors_agree-2 w ↦ search_none m e c.args.best copy1 w.donors_agree-then-donors_agree.ensures w.if-donors_agree-2.false
      | else-donors_agree-via-else-donors_agree w ↦ search_none m e c.args.best copy0 c.donors_agree.ensures w.if-donors_agree.false
    ]

pub search-best-requires : goal.search-best-requires
search-best-requires t c = (
  omega arith,
  (
    c.requires.0,
    omega arith,
    made_taken (carried c.requires) c.if-left-eq0.false c.args.choices refl plus tt c.fits.ensures c.if-fits.true,
    c.requires.3,
  ),
)

pub search-best-requires-then-is_tried : goal.search-best-requires-then-is_tried
search-best-requires-then-is_tried t c =
    let m = carried c.requires in
    let a = c.args in
    let e = c.if-left-eq0.false in
    let p : Went m e plus a.best c.if-fits.choices c.if-fits.best = elim c.if-fits.branch [
      | then-fits w ↦ went_taken m e a.choices refl plus tt c.fits.ensures w.if-fits.true _ _ _ (w.best-is ∙ w.search-best.ensures) w.choices-is
      | else-fits w ↦ went_unfit m e a.choices refl plus tt _ _ _ w.best-is w.choices-is c.fits.ensures w.if-fits.false
    ] in
    let w = tried m e c.if-fits.choices p.0 minus tt c.if-fits.best c.is_tried.ensures c.if-is_tried.true in (
      omega arith,
      (c.requires.0, omega arith, made_taken m e c.if-fits.choices p.0 minus tt w.1 refl, w.0),
    )

pub overflow_sub-rest : goal.overflow_sub-rest
overflow_sub-rest t c = made_less (carried c.requires) c.if-left-eq0.false _ refl

pub search-best-requires-then-can_beat : goal.search-best-requires-then-can_beat
search-best-requires-then-can_beat t c =
    let m = carried c.requires in
    let a = c.args in
    let e = c.if-left-eq0.false in
    let p : Went m e plus a.best c.if-fits.choices c.if-fits.best = elim c.if-fits.branch [
      | then-fits w ↦ went_taken m e a.choices refl plus tt c.fits.ensures w.if-fits.true _ _ _ (w.best-is ∙ w.search-best.ensures) w.choices-is
      | else-fits w ↦ went_unfit m e a.choices refl plus tt _ _ _ w.best-is w.choices-is c.fits.ensures w.if-fits.false
    ] in
    let q : Went m e minus c.if-fits.best c.if-is_tried.choices c.if-is_tried.best = elim c.if-is_tried.branch [
      | then-is_tried w ↦
          let f = (tried m e c.if-fits.choices p.0 minus tt c.if-fits.best c.is_tried.ensures w.if-is_tried.true).1 in
          went_taken m e c.if-fits.choices p.0 minus tt f refl _ _ _ (w.best-is ∙ w.search-best-then-is_tried.ensures) w.choices-is
      | else-is_tried w ↦ went_untried m e c.if-fits.choices p.0 minus tt _ _ _ w.best-is w.choices-is c.is_tried.ensures w.if-is_tried.false
    ] in (
      omega arith,
      (
        c.requires.0,
        omega arith,
        made_skipped m e _ refl c.if-is_tried.choices q.0,
        of_true (sym c.can_beat.ensures ∙ c.if-can_beat.true),
      ),
    )

pub returns-then-can_beat : goal.returns-then-can_beat
returns-then-can_beat t c =
    let m = carried c.requires in
    let a = c.args in
    let e = c.if-left-eq0.false in
    let p : Went m e plus a.best c.if-fits.choices c.if-fits.best = elim c.if-fits.branch [
      | then-fits w ↦ went_taken m e a.choices refl plus tt c.fits.ensures w.if-fits.true _ _ _ (w.best-is ∙ w.search-best.ensures) w.choices-is
      | else-fits w ↦ went_unfit m e a.choices refl plus tt _ _ _ w.best-is w.choices-is c.fits.ensures w.if-fits.false
    ] in
    let q : Went m e minus c.if-fits.best c.if-is_tried.choices c.if-is_tried.best = elim c.if-is_tried.branch [
      | then-is_tried w ↦
          let f = (tried m e c.if-fits.choices p.0 minus tt c.if-fits.best c.is_tried.ensures w.if-is_tried.true).1 in
          went_taken m e c.if-fits.choices p.0 minus tt f refl _ _ _ (w.best-is ∙ w.search-best-then-is_tried.ensures) w.choices-is
      | else-is_tried w ↦ went_untried m e c.if-fits.choices p.0 minus tt _ _ _ w.best-is w.choices-is c.is_tried.ensures w.if-is_tried.false
    ] in
    search_went m e a.best _ _ _ _ _ _ p q
    (went_skipped m e _ refl c.if-is_tried.choices q.0 c.if-is_tried.best _ c.search-best-then-can_beat.ensures)

pub returns-else-can_beat : goal.returns-else-can_beat
returns-else-can_beat t c =
    let m = carried c.requires in
    let a = c.args in
    let e = c.if-left-eq0.false in
    let p : Went m e plus a.best c.if-fits.choices c.if-fits.best = elim c.if-fits.branch [
      | then-fits w ↦ went_taken m e a.choices refl plus tt c.fits.ensures w.if-fits.true _ _ _ (w.best-is ∙ w.search-best.ensures) w.choices-is
      | else-fits w ↦ went_unfit m e a.choices refl plus tt _ _ _ w.best-is w.choices-is c.fits.ensures w.if-fits.false
    ] in
    let q : Went m e minus c.if-fits.best c.if-is_tried.choices c.if-is_tried.best = elim c.if-is_tried.branch [
      | then-is_tried w ↦
          let f = (tried m e c.if-fits.choices p.0 minus tt c.if-fits.best c.is_tried.ensures w.if-is_tried.true).1 in
          went_taken m e c.if-fits.choices p.0 minus tt f refl _ _ _ (w.best-is ∙ w.search-best-then-is_tried.ensures) w.choices-is
      | else-is_tried w ↦ went_untried m e c.if-fits.choices p.0 minus tt _ _ _ w.best-is w.choices-is c.is_tried.ensures w.if-is_tried.false
    ] in
    search_went m e a.best _ _ _ _ _ _ p q
    (went_unskipped m e _ refl c.if-is_tried.choices q.0 c.if-is_tried.best c.can_beat.ensures c.if-can_beat.false)
