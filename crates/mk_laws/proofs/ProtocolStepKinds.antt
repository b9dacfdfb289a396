-- The kinds of step that a cycle names.
use Rattle.mk_laws.proofs.Vocabulary.{Bool, Step, false, is_begin, is_close, is_end, is_release, refl, true, ◌≡◌}

abbrev pub is_grant : Step → Bool
is_grant Step.Grant = true
is_grant _ = false

-- each kind is one step
pub begin_is : (x : Step) → is_begin x ≡ true → x ≡ Step.Begin
begin_is Step.Begin h = refl
begin_is _ h = cc

pub close_is : (x : Step) → is_close x ≡ true → x ≡ Step.Close
close_is Step.Close h = refl
close_is _ h = cc

pub release_is : (x : Step) → is_release x ≡ true → x ≡ Step.Release
release_is Step.Release h = refl
release_is _ h = cc

pub end_is : (x : Step) → is_end x ≡ true → x ≡ Step.End
end_is Step.End h = refl
end_is _ h = cc
