-- What chains lead to is swept, link by link.
use Rattle.mk_why.proofs.Vocabulary.{Config, Global, LinksLead, Register, Root, World, word_of_root}
use Rattle.mk_sweep.proofs.Below.Laws.Vocabulary.{List, ℕ, refl, slice_index, subst, [], ◌*◌, ◌+◌, ◌∷◌}
use Rattle.mk_sweep.specs.Sweeps.{InGlobal, InRegister, InWord, IsSwept, IsSweptValue}
use Rattle.mk_why.specs.Chains.{ChainsAreSwept}

root_swept : (c : Config) (w : World) (root : Root) → IsSweptValue c w (word_of_root w.now.words root)
root_swept c w (Register caller register) = InRegister (8 * caller + register) refl
root_swept c w (Global global) = InGlobal global refl

links_swept : (c : Config) (w : World) (links : List ℕ) (a b : ℕ) → LinksLead c w a links b → IsSwept c w a
    → IsSwept c w b
links_swept c w [] a b leads x = subst (λ n. IsSwept c w n) leads x
links_swept c w (link ∷ links) a b leads x =
    let l = leads.1 in
    links_swept c w links leads.0 b leads.2 (record {
      value = slice_index w.now.words.heap l.word;
      found = InWord l.word (record { number = a; scanned = l.scanned; word = l.of_the_one }) refl;
      points = l.to_the_other;
    })

pub chains_are_swept : ChainsAreSwept
chains_are_swept c w root links b chain =
    links_swept c w links chain.first b chain.leads
    (record { value = word_of_root w.now.words root; found = root_swept c w root; points = chain.points })
