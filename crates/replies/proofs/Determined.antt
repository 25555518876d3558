-- The contract of a reply allows one result only.
use Prim.Native.Nat.{ℕ}
use mathlib.Core.Path.{ap, sym, ◌∙◌}
use mathlib.Core.List.{◌++◌}
use lib.ListN.{drop}
use Rattle.language.specs.Fprun.{fprun}
use Rattle.replies.specs.Replies.{ReplyDetermined}

pub reply_determined : ReplyDetermined
reply_determined input out r r' out₁ out₂ p q =
    let same = p.ends ∙ sym q.ends in
    (same, p.is ∙ ap (λ (n : ℕ). fprun input ++ drop n out) same ∙ sym q.is)
