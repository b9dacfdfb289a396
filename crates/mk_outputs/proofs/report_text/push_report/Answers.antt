use Rattle.std.proofs.Common.{List, append_assoc, ℕ, ◌++◌, ◌∙◌, ◌≡◌}
use Rattle.mk_outputs.proofs.report_text.push_report.Goals as goal

nested : (t a b c d e f : List ℕ)
    → ((((((t ++ a) ++ b) ++ c) ++ d) ++ e) ++ f) ≡ t ++ (a ++ (b ++ (c ++ (d ++ (e ++ f)))))
nested t a b c d e f =
    append_assoc ((((t ++ a) ++ b) ++ c) ++ d) e f
    ∙ (append_assoc (((t ++ a) ++ b) ++ c) d (e ++ f)
    ∙ (append_assoc ((t ++ a) ++ b) c (d ++ (e ++ f))
    ∙ (append_assoc (t ++ a) b (c ++ (d ++ (e ++ f))) ∙ append_assoc t a (b ++ (c ++ (d ++ (e ++ f)))))))

six : (t t1 t2 t3 t4 t5 t6 a b c d e f : List ℕ) → t1 ≡ t ++ a → t2 ≡ t1 ++ b → t3 ≡ t2 ++ c → t4 ≡ t3 ++ d
    → t5 ≡ t4 ++ e → t6 ≡ t5 ++ f → t6 ≡ t ++ (a ++ (b ++ (c ++ (d ++ (e ++ f)))))
six t t1 t2 t3 t4 t5 t6 a b c d e f one two three four five last = cc (nested t a b c d e f)

pub returns : goal.returns
returns c = six _ _ _ _ _ _ _ _ _ _ _ _ _ c.in_ok-push_count.ensures c.in_ok-push_count-2.ensures
    c.in_ok-push_count-3.ensures c.in_ok-push_count-4.ensures c.in_ok-push_count-5.ensures
    c.in_ok-push_count-6.ensures
