-- What one call leaves of the marks: a refused one leaves them as they were; an answered one on these lists writes marks of all clusters'
-- entries in their places.
--     after_refused, after_answered     what it leaves
--     after_long, after_others, after_entry, after_asked     its effect byte by byte
-- Assumes nothing.
use mathlib.Core.List.{List}
use mathlib.Core.Logic.{◌≢◌, ◌⊎◌, inl, inr, ⊎_elim}
use mathlib.Core.Path.{◌≡◌, sym, ap, ◌∙◌}
use Prim.Native.Nat.{ℕ, ◌+◌, ◌-◌, ◌≤◌, ◌<◌}
use native.Mathlib.Decide.{ℕ_discrete, dec_lt}
use native.Mathlib.Nat.{zero-add}
use native.Mathlib.Omega.{arith}
use lib.ListN.{length, get_or, take, drop, length-drop}
use lib.Seq.{length-take-le}
use Rattle.bases.specs.Letter.{bases_of}
use Rattle.bases.specs.Put.{put}
use Rattle.bases.proofs.PutLaws.{put_length, put_before, put_inside, put_behind, put_same, put_part}
use Rattle.marks.specs.Marks.{marks_of, clusters_of, first_entry, cluster_at, all_marks}
use Rattle.clusters.specs.Merged.{merged_variants}
use Rattle.clusters.proofs.JoinLaws.{first_within, joined_at}
use Rattle.donors.specs.Choice.{Variant}
use Rattle.vcf.specs.List.{judge_text}
use Rattle.card.specs.All.{all_refusal}
use Rattle.card.specs.Demand.{Input, Call, mark, mark_all, input_of, refusal_of, Asks, after, OnThese, Allowed, Answers, LiesIn}
use Rattle.card.proofs.AllLaws.{all_refused, all_given, all_roomy}
use Rattle.card.proofs.ClusterMarks.{marks_long, marks_none, whole_long, all_long, entries_most}
use Rattle.card.proofs.MarkLaws.{mark_asked, mark_kept, mark_written}

-- The part that is lent.
module _ (marks : List ℕ) (i : Input) (fits : i.from + i.room ≤ length marks) where
  abbrev lent : List ℕ
  lent = take i.room (drop i.from marks)

  lent_long : length (take i.room (drop i.from marks)) ≡ i.room
  lent_long = length-take-le i.room (drop i.from marks) (omega (arith, length-drop i.from marks))

-- A refused call leaves the marks as they are.
pub after_refused : (marks : List ℕ) (c : Call) → (input_of c).from + (input_of c).room ≤ length marks → (refusal_of c).number ≢ 0 → after marks c ≡ marks
after_refused marks (mark i k) fits n =
    ap (put marks i.from) (mark_kept i.reference i.name i.first i.second i.plan k (lent marks i fits) (rw (lent_long marks i fits) n))
    ∙ put_same marks i.from (omega arith) i.room fits
after_refused marks (mark_all i) fits n =
    ap (put marks i.from) (all_refused i.reference i.name i.first i.second i.plan (lent marks i fits) (rw (lent_long marks i fits) n)).2
    ∙ put_same marks i.from (omega arith) i.room fits

module _ (reference name first second : List ℕ) (accepted1 : (judge_text (bases_of reference) name first).number ≡ 0) (accepted2 : (judge_text (bases_of reference) name second).number ≡ 0) where
  abbrev cs : List (List Variant)
  cs = clusters_of (bases_of reference) first second

  -- how many entries there are, and the marks of all of them
  abbrev count : ℕ
  count = length (merged_variants (bases_of reference) first second)

  abbrev right : List ℕ
  right = all_marks (bases_of reference) (clusters_of (bases_of reference) first second)

  cluster_within : (k : ℕ) → first_entry cs k + length (marks_of (bases_of reference) (cluster_at cs k)) ≤ count
  cluster_within k =
      omega (arith, marks_long (bases_of reference) (cluster_at cs k), first_within cs k, whole_long (bases_of reference) name first second accepted1 accepted2)

  all_within : length right ≡ count
  all_within = all_long (bases_of reference) cs ∙ whole_long (bases_of reference) name first second accepted1 accepted2

  -- What an answered call on these lists leaves: some of the marks of all entries, in their places, and at least those of the clusters
  -- that it asks for.
  pub record Wrote (marks : List ℕ) (c : Call) : Type 0 where
    pub at : ℕ
    pub bytes : List ℕ
    pub wrote : after marks c ≡ put marks at bytes
    pub within : at + length bytes ≤ count
    pub enough : count ≤ length marks
    pub same : (i : ℕ) → i < length bytes → get_or bytes i 0 ≡ get_or right (at + i) 0
    pub asked : (k e : ℕ) → Asks k c → LiesIn (bases_of reference) first second k e → (at ≤ e) × (e < at + length bytes)

  pub after_answered : (marks : List ℕ) (c : Call) → (input_of c).from + (input_of c).room ≤ length marks → OnThese reference name first second (input_of c) → (refusal_of c).number ≡ 0 → Wrote marks c
  after_answered marks (mark i k) fits o z =
      let part = lent marks i fits in
      let asked = mark_asked i.reference i.name i.first i.second i.plan k i.room z in
      let most = entries_most (bases_of reference) name first second accepted1 accepted2 in
      let wrote = mark_written i.reference i.name i.first i.second i.plan k part (rw (lent_long marks i fits) z) in
      let these : put part (first_entry (clusters_of (bases_of i.reference) i.first i.second) k)
      (marks_of (bases_of i.reference) (cluster_at (clusters_of (bases_of i.reference) i.first i.second) k))
      ≡ put part (first_entry cs k) (marks_of (bases_of reference) (cluster_at cs k)) =
      rw (o.reference_same, o.first_same, o.second_same) in
      record {
        at = first_entry cs k;
        bytes = marks_of (bases_of reference) (cluster_at cs k);
        wrote =
            ap (put marks i.from) (wrote ∙ these)
            ∙ rw o.from_first (put_part marks (first_entry cs k) (omega (arith, cluster_within k, asked.roomy)) (marks_of (bases_of reference) (cluster_at cs k)) i.room
            (omega (arith, cluster_within k, asked.roomy)) (omega arith));
        within = cluster_within k;
        enough = omega (arith, asked.roomy);
        same = λ j h. sym (joined_at (marks_of (bases_of reference)) (marks_long (bases_of reference)) (marks_none (bases_of reference)) cs k j 0
            (omega (arith, marks_long (bases_of reference) (cluster_at cs k))));
        asked = λ j e a l. own j e (omega (arith, a)) l;
      }
    where
      own : (j e : ℕ) → j ≡ k → LiesIn (bases_of reference) first second j e → (first_entry cs k ≤ e) × (e < first_entry cs k + length (marks_of (bases_of reference) (cluster_at cs k)))
      own j e s l =
          let l' : LiesIn (bases_of reference) first second k e = rw s at l in
          (omega (arith, l'.begun), omega (arith, l'.inside, marks_long (bases_of reference) (cluster_at cs k)))
  after_answered marks (mark_all i) fits o z =
      let part = lent marks i fits in
      let most = entries_most (bases_of reference) name first second accepted1 accepted2 in
      let z' : (all_refusal i.reference i.name i.first i.second (length i.plan) (length part)).number ≡ 0 = rw (lent_long marks i fits) z in
      let roomy = all_roomy i.reference i.name i.first i.second i.plan part z' in
      let wrote = (all_given i.reference i.name i.first i.second i.plan part z').2 in
      let these : put part 0 (all_marks (bases_of i.reference) (clusters_of (bases_of i.reference) i.first i.second)) ≡ put part 0 right =
      rw (o.reference_same, o.first_same, o.second_same) in
      record {
        at = 0;
        bytes = right;
        wrote =
            ap (put marks i.from) (wrote ∙ these)
            ∙ rw o.from_first (put_part marks 0 (omega arith) right i.room (omega (arith, all_within, roomy, lent_long marks i fits)) (omega arith));
        within = omega (arith, all_within);
        enough = omega (arith, roomy, lent_long marks i fits);
        same = λ j h. ap (λ (n : ℕ). get_or right n 0) (sym (zero-add j));
        asked = λ j e a l. (omega arith, omega (arith, all_within, first_within cs j, whole_long (bases_of reference) name first second accepted1 accepted2, l.inside));
      }

  -- A call is refused, or it writes.
  told : (marks : List ℕ) (c : Call) → Allowed reference name first second (length marks) c → (after marks c ≡ marks) ⊎ Wrote marks c
  told marks c (fits, inl n) = inl (after_refused marks c fits n)
  told marks c (fits, inr o) = go (ℕ_discrete (refusal_of c).number 0)
    where
      go : Dec ((refusal_of c).number ≡ 0) → (after marks c ≡ marks) ⊎ Wrote marks c
      go (yes e) = inr (after_answered marks c fits o e)
      go (no n) = inl (after_refused marks c fits n)

  -- The effect of one call.
  module _ (marks : List ℕ) (c : Call) (a : Allowed reference name first second (length marks) c) where
    pub after_long : length (after marks c) ≡ length marks
    after_long =
        ⊎_elim
        (λ r. ap length r)
        (λ w. ap length w.wrote ∙ put_length marks w.at (omega (arith, w.within, w.enough)) w.bytes (omega (arith, w.within, w.enough)))
        (told marks c a)

    pub after_others : (e : ℕ) → count ≤ e → get_or (after marks c) e 0 ≡ get_or marks e 0
    after_others e h =
        ⊎_elim
        (λ r. ap (λ (l : List ℕ). get_or l e 0) r)
        (λ w. ap (λ (l : List ℕ). get_or l e 0) w.wrote
        ∙ put_behind marks w.at (omega (arith, w.within, w.enough)) w.bytes e 0 (omega (arith, w.within)))
        (told marks c a)

    -- Byte e, where the call writes it and where it does not.
    module _ (e : ℕ) (w : Wrote marks c) where
      written : w.at ≤ e → e < w.at + length w.bytes → get_or (after marks c) e 0 ≡ get_or right e 0
      written h m =
          let i = e - w.at in
          let there : w.at + i ≡ e = omega arith in
          ap (λ (l : List ℕ). get_or l e 0) w.wrote
          ∙ ap (λ (n : ℕ). get_or (put marks w.at w.bytes) n 0) (sym there)
          ∙ put_inside marks w.at (omega (arith, w.within, w.enough)) w.bytes i 0 (omega arith)
          ∙ w.same i (omega arith)
          ∙ ap (λ (n : ℕ). get_or right n 0) there

      either : Dec (e < w.at) → Dec (e < w.at + length w.bytes) → get_or marks e 0 ≡ get_or right e 0 → get_or (after marks c) e 0 ≡ get_or right e 0
      either (yes h) d s =
          ap (λ (l : List ℕ). get_or l e 0) w.wrote ∙ put_before marks w.at (omega (arith, w.within, w.enough)) w.bytes e 0 h ∙ s
      either (no h) (yes m) s = written (omega arith) m
      either (no h) (no m) s =
          ap (λ (l : List ℕ). get_or l e 0) w.wrote ∙ put_behind marks w.at (omega (arith, w.within, w.enough)) w.bytes e 0 (omega arith) ∙ s

    pub after_entry : (e : ℕ) → get_or marks e 0 ≡ get_or right e 0 → get_or (after marks c) e 0 ≡ get_or right e 0
    after_entry e s =
        ⊎_elim (λ r. ap (λ (l : List ℕ). get_or l e 0) r ∙ s) (λ w. either e w (dec_lt e w.at) (dec_lt e (w.at + length w.bytes)) s) (told marks c a)

    pub after_asked : (k e : ℕ) → LiesIn (bases_of reference) first second k e → Answers reference name first second k c → get_or (after marks c) e 0 ≡ get_or right e 0
    after_asked k e l (o, asks, z) =
        let w = after_answered marks c a.0 o z in
        let (h, m) = w.asked k e asks l in
        written e w h m
