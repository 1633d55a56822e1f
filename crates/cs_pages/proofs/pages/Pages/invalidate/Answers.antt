use Rattle.std.proofs.Common.{◌≡◌, ◌∙◌, ap, arith, length, rules, subst, sym}
use Rattle.std.specs.Prelude.{is_some}
use Rattle.std.proofs.lemmas.Map.Made.{filter_same_pairs}
use Rattle.cs_pages.specs.Page.{after_drop}
use Rattle.cs_pages.specs.Pages.{IsKept, page_at}
use Rattle.cs_pages.proofs.Kept.{kept_owed, owed_at, owed_or_clean, owed_pages}
use Rattle.cs_pages.proofs.Ordered.{ascending}
use Rattle.cs_pages.proofs.pages.Pages.invalidate.Goals as goal

pub invariant_of-self : goal.invariant_of-self
invariant_of-self c =
    let left : c.retain.new.self.entries ≡ owed_pages c.self.inside.pages.entries =
    filter_same_pairs _ (λ e. is_some e.1.owed) _ (λ k v b w f' t. search rules) _ _ c.retain.ensures.filtered in
    subst IsKept (sym left) (kept_owed 0 256 c.self.inside.pages.entries (ascending c.self.inside.pages c.retain.ensures.was_ordered c.self.invariant) c.self.invariant)

pub returns-clause-count : goal.returns-clause-count
returns-clause-count c =
    let left : c.retain.new.self.entries ≡ owed_pages c.self.inside.pages.entries =
    filter_same_pairs _ (λ e. is_some e.1.owed) _ (λ k v b w f' t. search rules) _ _ c.retain.ensures.filtered in
    rw (← c.self.view_is) (omega (arith, ap length left, ap length c.self.view_is, c.cached.ensures.value, c.cached-before.ensures.value, owed_or_clean c.self.inside.pages.entries))

pub returns-clause-pages : goal.returns-clause-pages
returns-clause-pages c = λ q.
    let left : c.retain.new.self.entries ≡ owed_pages c.self.inside.pages.entries =
    filter_same_pairs _ (λ e. is_some e.1.owed) _ (λ k v b w f' t. search rules) _ _ c.retain.ensures.filtered in
    ap (λ es. page_at es q) left
    ∙ (owed_at 0 256 q c.self.inside.pages.entries (ascending c.self.inside.pages c.retain.ensures.was_ordered c.self.invariant)
    ∙ ap (λ es. after_drop (page_at es q)) c.self.view_is)
