-- A page's released cells are given back.
use Rattle.mk_words.proofs.Below.Laws.Vocabulary.{Bool, List, Words, ℕ, and_from, ap, arith, cell_words, eq-eqb}
use Rattle.mk_words.proofs.Below.Laws.Vocabulary.{gives_back, has_bit, header_at, header_in, not, slice_index, subst}
use Rattle.mk_words.proofs.Below.Laws.Vocabulary.{sym, true, used_at, without, words_under, ◌*◌, ◌+◌, ◌-◌, ◌<◌, ◌||◌}
use Rattle.mk_words.proofs.Below.Laws.Vocabulary.{◌∙◌, ◌≡◌}
use Rattle.mk_cycle.proofs.Vocabulary.{FreesPage, GivesNothingBack, PageState, PassState, SamePage, bit_and, drops}
use Rattle.mk_cycle.proofs.{Vocabulary.{left_unmarked, now_of}, CellBits.{left_within, none_beyond, none_of_itself}}
use Rattle.mk_cycle.proofs.{CellBits.{part_within, rest_away, taken_away}, BeginSteps.all_from, FreeingSteps.frees_then}
use Rattle.mk_core.specs.{Cells.are_left_unmarked, TurnConditions.are_wiped}

pub page_at_once : (page : ℕ) {p q : PassState} → GivesNothingBack p q → FreesPage page p q
page_at_once page a = record { frees = a.frees; others = λ r ne. a.same r }

pub page_then : {page : ℕ} {p q r : PassState} → FreesPage page p q → FreesPage page q r → FreesPage page p r
page_then {p} {q} {r} a b = record {
  frees = frees_then a.frees b.frees;
  others = λ i ne. b.others i ne ∙ a.others i ne;
}

-- a page whose state is the same has the same cells left unmarked
pub same_left : (p q : PassState) (page : ℕ) → SamePage p q page → (now_of q).words.marks ≡ (now_of p).words.marks
    → left_unmarked (now_of q).words page ≡ left_unmarked (now_of p).words page
same_left p q page same marks =
    ap (λ (x : PageState). without x.snapshot (slice_index (now_of q).words.marks page)) same
    ∙ ap (λ (ms : List ℕ). without (slice_index (now_of p).words.snapshot page) (slice_index ms page)) marks

pub same_header : (p q : PassState) (page : ℕ) → SamePage p q page
    → header_at (now_of q).words page ≡ header_at (now_of p).words page
same_header p q page same = ap (λ (x : PageState). x.page.header) same

pub same_used : (p q : PassState) (page : ℕ) → SamePage p q page
    → used_at (now_of q).words page ≡ used_at (now_of p).words page
same_used p q page same = ap (λ (x : PageState). x.page.used) same

wiped_or_out : (b c : Bool) → (b ≡ true → c ≡ true) → (not b || c) ≡ true
wiped_or_out x0 c h = grind arith

-- `used` (b)
pub gives_ok : (w : Words) (page used gone size : ℕ) → used_at w page ≡ used → left_unmarked w page ≡ gone
    → words_under (header_in w page) ≡ size → ((k : ℕ) → k < 32 → (i : ℕ) → has_bit (bit_and used gone) k ≡ true
    → i < size → slice_index w.heap (64 * page + k * size + i) ≡ 0) → gives_back w page (without used gone) ≡ true
gives_ok w page used gone size is_used is_gone is_size zeros =
    let cells : used_at w page - without used gone ≡ bit_and used gone = cc (is_used, taken_away used gone) in
    and_from _ _ (and_from _ _ (eq-eqb _ _ (ap (λ (n : ℕ). bit_and (without used gone) n) is_used
    ∙ left_within used gone)) (ap (λ (n : ℕ). are_left_unmarked w page n) cells ∙ eq-eqb _ 0 (ap
    (λ (n : ℕ). without (bit_and used gone) n) is_gone ∙ none_beyond used gone))) (ap (λ (n : ℕ). are_wiped w page n)
    cells ∙ all_from 32 _ (λ k lt. wiped_or_out (has_bit (bit_and used gone) k) _ (λ has. all_from
    (cell_words w (record { page = page; index = k })) _ (λ i small. eq-eqb _ 0 (ap (λ (n : ℕ). slice_index w.heap
    (64 * page + k * n + i)) is_size ∙ zeros k lt i has (subst (λ (n : ℕ). i < n) is_size small))))))

-- `quar` (c)
pub drops_ok : (w : Words) (page freed snapshot gone : ℕ) → slice_index w.freed page ≡ freed
    → slice_index w.snapshot page ≡ snapshot → gone ≡ without snapshot (slice_index w.marks page)
    → bit_and (used_at w page) gone ≡ 0 → drops w page (without freed gone) (snapshot - gone) ≡ true
drops_ok w page freed snapshot gone is_freed is_snapshot is_gone unused =
    let m : ℕ = slice_index w.marks page in
    let kept : snapshot - gone ≡ bit_and snapshot m = ap (λ (n : ℕ). snapshot - n) is_gone ∙ taken_away snapshot m in
    let away : slice_index w.snapshot page - (snapshot - gone) ≡ gone =
    cc (is_snapshot, is_gone, rest_away snapshot m) in
    let left : left_unmarked w page ≡ gone = ap (λ (n : ℕ). without n m) is_snapshot ∙ sym is_gone in
    and_from _ _ (and_from _ _ (and_from _ _ (eq-eqb _ _ (ap (λ (n : ℕ). bit_and (snapshot - gone) n) is_snapshot ∙ ap
    (λ (n : ℕ). bit_and n snapshot) kept ∙ part_within snapshot m ∙ sym kept)) (ap (λ (n : ℕ). are_left_unmarked w page
    n) away ∙ eq-eqb _ 0 (ap (λ (n : ℕ). without gone n) left ∙ none_of_itself gone)))
    (eq-eqb _ 0 (ap (λ (n : ℕ). bit_and (used_at w page) n) away ∙ unused))) (eq-eqb _ _
    (sym (ap (λ (n : ℕ). without (slice_index w.freed page) n) away ∙ ap (λ (n : ℕ). without n gone) is_freed)))

-- Then none is left.
pub none_is_left : (snapshot marks gone : ℕ) → gone ≡ without snapshot marks → without (snapshot - gone) marks ≡ 0
none_is_left snapshot marks gone is = cc (taken_away snapshot marks, none_beyond snapshot marks)
