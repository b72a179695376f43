-- What is said of an answer is the whole of it, and each public promise settles its outcome. Assumes nothing.
use mathlib.Core.Path.{◌≡◌, refl, sym, ap, ◌∙◌}
use Rattle.std.specs.Prelude.{Result, Ok, Err}
use Rattle.answer.specs.One.{One}
use Rattle.answer.specs.Said.{Said, said_of}
use Rattle.answer.specs.declared.Refusal.{Refusal}
use Rattle.answer.proofs.Rows.{kind, numbers}
use Rattle.answer.proofs.Reasons.{reason_of, reason_back}
use Rattle.answer.proofs.Reason.number.Kinds as number_kinds
use Rattle.answer.proofs.Reason.number.Reads as number_reads
use Rattle.answer.proofs.Reason.at.Kinds as at_kinds
use Rattle.answer.proofs.Reason.at.Reads as at_reads
use Rattle.answer.proofs.ReasonPartialEq.eq.Kinds as reason_eq_kinds
use Rattle.answer.proofs.ReasonPartialEq.eq.Reads as reason_eq_reads
use Rattle.answer.proofs.RefusalPartialEq.eq.Kinds as refusal_eq_kinds
use Rattle.answer.proofs.RefusalPartialEq.eq.Reads as refusal_eq_reads

-- of a refusal, and so of any answer that says what else was asked for
module _ {A : Type 0} (says : A → Said) (same : (x y : A) → says x ≡ says y → x ≡ y) (other : (x : A) → kind (says x) ≡ 0 → ⊥) where
  pub said_one : (x y : Result A Refusal) → said_of says x ≡ said_of says y → x ≡ y
  said_one (Ok x) (Ok y) e = ap Ok (same x y e)
  said_one (Ok x) (Err r) e = absurd (other x (ap kind e))
  said_one (Err r) (Ok y) e = absurd (other y (ap kind (sym e)))
  said_one (Err r) (Err s) e =
      ap (λ z. Err (record { reason = z; at = r.at })) (sym (reason_back r.reason))
      ∙ ap (λ z. Err (record { reason = reason_of (numbers z).0; at = (numbers z).1 })) e
      ∙ ap (λ z. Err (record { reason = z; at = s.at })) (reason_back s.reason)

pub number_one : One number_kinds.ps number_kinds.r number_reads.Post
number_one κs a x y s t p q = (p ∙ sym q, refl)

pub at_one : One at_kinds.ps at_kinds.r at_reads.Post
at_one κs a x y s t p q = (p ∙ sym q, refl)

pub reason_eq_one : One reason_eq_kinds.ps reason_eq_kinds.r reason_eq_reads.Post
reason_eq_one κs a x y s t p q = (p ∙ sym q, refl)

pub refusal_eq_one : One refusal_eq_kinds.ps refusal_eq_kinds.r refusal_eq_reads.Post
refusal_eq_one κs a x y s t p q = (p ∙ sym q, refl)
