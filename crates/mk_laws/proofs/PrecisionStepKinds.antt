-- The kinds of step that a cycle names, for the crates above.
pub use Rattle.mk_laws.proofs.ProtocolStepKinds.{is_grant, release_is}
pub use Rattle.std.proofs.lemmas.Bool.{or_from as both_fail}
