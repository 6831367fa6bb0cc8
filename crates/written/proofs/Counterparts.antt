-- Each entry of an accepted list has its counterpart in the written list, and the other way round.
--     beside_left, beside_right     what stands beside a member of one of two lists
--     perm_member                   a list in another order has the same members
--     counterpart_written           of an entry read: an entry of the written list that is it in normal form
--     counterpart_read              of a written entry: an entry read whose normal form it is
-- Assumes nothing.
use mathlib.Core.List.Memᴰ
use mathlib.Core.List.Permᴰ
use mathlib.Core.List.{List, [], ◌∷◌, Memᴰ, Permᴰ}
use mathlib.Core.Logic.{⊎_elim}
use mathlib.Core.Path.{◌≡◌, refl, ◌∙◌}
use Prim.Native.Nat.{ℕ}
use Rattle.bases.specs.Reference.{Bases}
use Rattle.vcf.specs.declared.entry.Entry.{Entry}
use Rattle.vcf.specs.Entry.{entries_of}
use Rattle.vcf.specs.List.{judge_text}
use Rattle.written.specs.Entries.{Beside, new_order, InNormalForm}
use Rattle.written.specs.Written.{written_text}
use Rattle.written.proofs.NewOrderLaws.{order_once}
use Rattle.written.proofs.WrittenEntries.{written_entries}

module _ (P : Entry → Entry → Type 0) where
  beside_left : (es ns : List Entry) → Beside P es ns → (e : Entry) → Memᴰ e es → (n : Entry) × Memᴰ n ns × P e n
  beside_left [] ns b e m = absurd (Memᴰ.not-nil m)
  beside_left (d ∷ es) [] b e m = absurd b
  beside_left (d ∷ es) (n ∷ ns) b e m = ⊎_elim (λ h. (n, Memᴰ.head refl, rw h b.0)) (λ k. later (beside_left es ns b.1 e k)) (Memᴰ.cases_cons m)
    where
      later : (c : Entry) × Memᴰ c ns × P e c → (c : Entry) × Memᴰ c (n ∷ ns) × P e c
      later (c, k, h) = (c, Memᴰ.tail k, h)

  beside_right : (es ns : List Entry) → Beside P es ns → (n : Entry) → Memᴰ n ns → (e : Entry) × Memᴰ e es × P e n
  beside_right [] [] b n m = absurd (Memᴰ.not-nil m)
  beside_right [] (c ∷ ns) b n m = absurd b
  beside_right (e ∷ es) [] b n m = absurd b
  beside_right (e ∷ es) (c ∷ ns) b n m = ⊎_elim (λ h. (e, Memᴰ.head refl, rw h b.0)) (λ k. later (beside_right es ns b.1 n k)) (Memᴰ.cases_cons m)
    where
      later : (d : Entry) × Memᴰ d es × P d n → (d : Entry) × Memᴰ d (e ∷ es) × P d n
      later (d, k, h) = (d, Memᴰ.tail k, h)

perm_member : {a : Entry} {xs ys : List Entry} → Permᴰ xs ys → Memᴰ a xs → Memᴰ a ys
perm_member Permᴰ.nil m = m
perm_member (Permᴰ.cons e d) m = ⊎_elim (λ h. Memᴰ.head (h ∙ e)) (λ k. Memᴰ.tail (perm_member d k)) (Memᴰ.cases_cons m)
perm_member (Permᴰ.swap e f) m =
    ⊎_elim (λ h. Memᴰ.tail (Memᴰ.head (h ∙ e)))
    (λ k. ⊎_elim (λ h. Memᴰ.head (h ∙ f)) (λ z. Memᴰ.tail (Memᴰ.tail z)) (Memᴰ.cases_cons k))
    (Memᴰ.cases_cons m)
perm_member (Permᴰ.trans d e) m = perm_member e (perm_member d m)

module _ (reference name : List ℕ) (ok : Bases reference) (t : List ℕ) (accepted : (judge_text reference name t).number ≡ 0) where
  abbrev w : List ℕ
  w = written_text reference t

  pub counterpart_written : (e : Entry) → Memᴰ e (entries_of t) → (n : Entry) × Memᴰ n (entries_of w) × InNormalForm reference t w e n
  counterpart_written e m =
      beside_left (InNormalForm reference t w) (new_order reference t) (entries_of w) (written_entries reference name ok t accepted).each e
      (perm_member (order_once reference t [] (entries_of t)) m)

  pub counterpart_read : (n : Entry) → Memᴰ n (entries_of w) → (e : Entry) × Memᴰ e (entries_of t) × InNormalForm reference t w e n
  counterpart_read n m = back (beside_right (InNormalForm reference t w) (new_order reference t) (entries_of w) (written_entries reference name ok t accepted).each n m)
    where
      back : (e : Entry) × Memᴰ e (new_order reference t) × InNormalForm reference t w e n → (e : Entry) × Memᴰ e (entries_of t) × InNormalForm reference t w e n
      back (e, k, h) = (e, perm_member (Permᴰ.symm (order_once reference t [] (entries_of t))) k, h)
