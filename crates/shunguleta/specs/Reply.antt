-- An answer as C and Rust have it.
use Rattle.std.specs.Prelude.{ℕ, ◌≡◌, cond, [], ◌∷◌}
use Rattle.answer.specs.Said.{Said, refused, header, task, figures, choice, needs, filled, plan, written}
use Rattle.shunguleta.specs.declared.Reply.{Reply}

-- number 0: not refused, with the values in their order
abbrev pub given : ℕ → ℕ → ℕ → Reply
given a b c = record { number = 0; at = 0; values = a ∷ b ∷ c ∷ [] }

-- what an answer says, as a reply; 0 for values that it has not
abbrev pub reply_of : Said → Reply
reply_of (refused number at) = record { number = number; at = at; values = 0 ∷ 0 ∷ 0 ∷ [] }
reply_of (header n m H) = given n m H
reply_of (task E modes permitted) = given E modes permitted
reply_of (figures C L T) = given C L T
reply_of (choice permitted cores cost) = given (cond permitted 1 0) cores cost
reply_of (needs cores) = given cores 0 0
reply_of (filled p) = given p 0 0
reply_of (plan cores cost) = given cores cost 0
reply_of written = given 0 0 0

-- a call's promise is about its answer; the reply says what an answer does that keeps the promise
pub record Replied {A : Type 0} (said : A → Said) (Promised : A → Type 0) (r : Reply) : Type 0 where
  pub answer : A
  pub reply : r ≡ reply_of (said answer)
  pub promised : Promised answer
