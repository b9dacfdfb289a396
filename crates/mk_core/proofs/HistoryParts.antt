-- Histories in two parts: their calls, and what these leave in the heap that never reuses storage.
use Rattle.std.proofs.lemmas.List.{map-append}
use Rattle.mk_core.proofs.Vocabulary.{AreEnabledFrom, Config, Event, IsHistory, List, ap, asked, calls, calls_from}
use Rattle.mk_core.proofs.Vocabulary.{first_world, left, left_from, never_behind, never_first, subst, sym, ◌++◌, ◌↔◌}
use Rattle.mk_core.proofs.{Vocabulary.{◌∙◌, ◌≡◌}, Histories.{calls_append, enabled_append, enabled_parts, left_append}}
use Rattle.mk_never.proofs.Parts.{admitted_append, after_append, replies_append}
use Rattle.mk_never.specs.{Admitted.AreAdmitted, NeverHeap.{Call, after_calls, replies_of}}
use Rattle.mk_core.specs.{HistoryLaws.IsOfTwoParts, Calls.Decided, History.{AreEnabled, CallsAreAdmitted}}

pub left_in_parts : (c : Config) (es more : List Event)
    → left c (es ++ more) ≡ left_from c (left c es) more
left_in_parts c es more = left_append c (first_world c) es more

pub enabled_in_parts : (c : Config) (es more : List Event)
    → AreEnabled c (es ++ more) ↔ (AreEnabled c es × AreEnabledFrom c (left c es) more)
enabled_in_parts c es more =
    (λ h. enabled_parts c (first_world c) es more h, λ h. enabled_append c (first_world c) es more h.0 h.1)

pub calls_in_parts : (c : Config) (es more : List Event)
    → calls c (es ++ more) ≡ calls c es ++ calls_from c (left c es) more
calls_in_parts c es more = calls_append c (first_world c) es more

asked_in_parts : (c : Config) (es more : List Event)
    → asked (calls c (es ++ more)) ≡ asked (calls c es) ++ asked (calls_from c (left c es) more)
asked_in_parts c es more = ap (λ (xs : List Decided). asked xs) (calls_in_parts c es more)
    ∙ map-append _ (calls c es) (calls_from c (left c es) more)

pub never_in_parts : (c : Config) (es more : List Event)
    → never_behind c (es ++ more) ≡ after_calls (never_behind c es) (asked (calls_from c (left c es) more))
never_in_parts c es more = ap (λ (xs : List Call). after_calls (never_first c) xs) (asked_in_parts c es more)
    ∙ after_append (never_first c) (asked (calls c es)) (asked (calls_from c (left c es) more))

pub replies_in_parts : (c : Config) (es more : List Event) → replies_of (never_first c) (asked (calls c (es ++ more)))
    ≡ replies_of (never_first c) (asked (calls c es))
    ++ replies_of (never_behind c es) (asked (calls_from c (left c es) more))
replies_in_parts c es more = ap (λ (xs : List Call). replies_of (never_first c) xs) (asked_in_parts c es more)
    ∙ replies_append (never_first c) (asked (calls c es)) (asked (calls_from c (left c es) more))

pub admitted_in_parts : (c : Config) (es more : List Event) → CallsAreAdmitted c (es ++ more)
    ↔ (CallsAreAdmitted c es × AreAdmitted c.globals (never_behind c es) (asked (calls_from c (left c es) more)))
admitted_in_parts c es more =
    let parts = admitted_append c.globals (never_first c) (asked (calls c es)) (asked (calls_from c (left c es) more))
    in (
      λ h. parts.0 (subst (λ (xs : List Call). AreAdmitted c.globals (never_first c) xs) (asked_in_parts c es more) h),
      λ h. subst (λ (xs : List Call). AreAdmitted c.globals (never_first c) xs) (sym (asked_in_parts c es more))
          (parts.1 h),
    )

pub earlier_part_is_history : (c : Config) (es more : List Event) → IsHistory c (es ++ more) → IsHistory c es
earlier_part_is_history c es more h = record {
  within_limits = h.within_limits;
  enabled = ((enabled_in_parts c es more).0 h.enabled).0;
  admitted = ((admitted_in_parts c es more).0 h.admitted).0;
}

pub is_of_two_parts : (c : Config) (es more : List Event) → IsOfTwoParts c es more
is_of_two_parts c es more = record {
  leaves = left_in_parts c es more;
  enabled = enabled_in_parts c es more;
  decides = calls_in_parts c es more;
  never = never_in_parts c es more;
  replies = replies_in_parts c es more;
  admitted = admitted_in_parts c es more;
  earlier = earlier_part_is_history c es more;
}
