use Rattle.std.proofs.Common.{◌≡◌, List, refl, ap, sym, ◌∙◌}
use Rattle.std.specs.Prelude.{map}
use Rattle.std.proofs.lemmas.List.{take_all}
use Rattle.pe_grammar.specs.Derivation.{Derivation, derivation, repeated, done, once}
use Rattle.pe_grammar.specs.declared.tree.Tree.{Tree}
use Rattle.pe_grammar.proofs.Lists.{each_value}
use Rattle.pe_grammar_sample.specs.Meaning.{setting_of, each_setting, settings_of}
use Rattle.pe_grammar_sample.specs.declared.statement.Setting.{Setting}
use Rattle.pe_grammar_sample.proofs.build.make_settings.Goals as goal

settings_shape : (d : Derivation) (ts us : List Tree) (all : List Setting) → d ≡ once (repeated (map derivation ts) done) → us ≡ ts → all ≡ map (λ t. setting_of (derivation t)) us → all ≡ settings_of d
settings_shape d ts us all p q r = r ∙ ap (λ v. map (λ t. setting_of (derivation t)) v) q ∙ sym (each_value setting_of each_setting refl (λ c e. refl) ts) ∙ sym (ap settings_of p)

pub returns : goal.returns
returns c = settings_shape _ _ _ _ c.options-option-items.ensures.is (take_all _ _ c.loop-option-test.false) c.loop-option.invariant
