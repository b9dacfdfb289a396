-- What is told after the looks, whatever others do.
use Rattle.mk_why.proofs.Vocabulary.{BeginApart, Config, Event, Found, IsHistory, IsListed, IsTold, ListsOn}
use Rattle.mk_why.proofs.Vocabulary.{LooksWhileStill, PassState, Storage, Tables, TurnState, WordsState, World, base_at}
use Rattle.mk_why.proofs.{Vocabulary.{is_kept, left, view_by, view_of, world_in, world_of}, Looks.others_still}
use Rattle.mk_sweep.proofs.Below.Laws.Vocabulary.{List, Option, ℕ, append-nil, arith, subst, sym, true, [], ◌++◌, ◌∙◌}
use Rattle.mk_sweep.{proofs.Below.Laws.Vocabulary.{◌≡◌}, specs.Below.Cycles.Stops.{IsToldOf}}
use Rattle.mk_core.specs.History.{AreOfOthers}
use Rattle.mk_why.specs.{Searching.IsExplored, Stops.IsToldBefore}

-- the two tables, of the view after the engine's marks
pub told_by : {k : Config} {t u : TurnState} (a : Tables) {b d : Tables} → LooksWhileStill t u
    → IsExplored k (view_by t.pass) a.found.items → BeginApart (view_by t.pass) → b.found ≡ a.found
    → ListsOn k (view_by u.pass) b d → ((n : ℕ) → is_kept k (world_in (view_by u.pass)) n ≡ true
    → IsListed d.kept.items (base_at (view_by u.pass) n)) → IsTold k d.found.items d.kept.items (view_by t.pass)
told_by a on explored apart same lists each = grind arith

-- nothing that others did is nothing
nothing_of_others : (p : PassState) → AreOfOthers p.seats []
unfolding AreOfOthers
nothing_of_others p = tt

told_now : (tells : Config → World → Type 0) (t : TurnState) → IsToldOf tells t.pass
    → tells t.pass.table.config (world_of t.pass)
told_now tells t told =
    let p : PassState = t.pass in
    subst (λ (es : List Event). tells p.table.config (left p.table.config es)) (append-nil p.seen)
    (told [] (nothing_of_others p) (subst (IsHistory p.table.config) (sym (append-nil p.seen)) t.in_order.history))

module _ (tells : Config → World → Type 0) (k : WordsState) {t u : TurnState} (on : LooksWhileStill t u)
    (told : IsToldOf tells t.pass) (same : t.pass.table ≡ k) {found : List (Option Found)}
    {kept : List (Option Storage)} (tables : IsTold k.config found kept (view_by t.pass)) where
  pub told_of : IsToldOf (λ c w. IsToldBefore tells c w × IsTold c found kept (view_of w)) u.pass
  told_of others of_others more =
      let c : Config = u.pass.table.config in
      let table : u.pass.table ≡ k = on.table ∙ same in
      let view : view_of (left c (u.pass.seen ++ others)) ≡ view_by t.pass =
      others_still u on.still others of_others more ∙ on.view in
      let second : IsTold c found kept (view_by t.pass) =
      subst (λ (x : WordsState). IsTold x.config found kept (view_by t.pass)) (sym table) tables in (
        record {
          before = world_of t.pass;
          told = subst (λ (x : WordsState). tells x.config (world_of t.pass))
              (sym on.table) (told_now tells t told);
          view = view;
        },
        subst (IsTold c found kept) (sym view) second,
      )
