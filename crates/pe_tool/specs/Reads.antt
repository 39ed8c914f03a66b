-- What the texts that are judged have to do with what is told of the files.
use Rattle.std.specs.Prelude.{◌≡◌, ◌⊎◌, ℕ, ◌<◌, List, length}
use Rattle.pe_base.specs.declared.text.Texts.{Texts}
use Rattle.pe_outside.specs.Outside.{HasRisen}
use Rattle.pe_text.specs.Scan.{most_bytes}
use Rattle.pe_tool.specs.declared.read.ReadStop.{ReadStop}
use Rattle.pe_tool.specs.declared.read.ReadStop.TheVariants.{Memory, Failed}
use Rattle.pe_tool.specs.declared.read.Names.{Names}
use Rattle.pe_tool.specs.Run.{FileNames, IsOneOf}

-- A text is the file's, or it is over the limit as the file is.
abbrev pub StandsFor : List ℕ → List ℕ → Type 0
StandsFor text file = (text ≡ file) ⊎ ((most_bytes < length text) × (most_bytes < length file))

-- so do five texts
pub record StandFor (texts files : Texts) : Type 0 where
  pub rtl : StandsFor texts.rtl files.rtl
  pub upf : StandsFor texts.upf files.upf
  pub lib : StandsFor texts.lib files.lib
  pub net : StandsFor texts.net files.net
  pub map : StandsFor texts.map files.map

-- a reading stopped at the file of this name, whose count rose, or for want of memory
abbrev pub IsReadStop : (List ℕ → ℕ) → (List ℕ → ℕ) → List ℕ → ReadStop → Type 0
IsReadStop before after name Memory = Unit {0}
IsReadStop before after name (Failed failed) = (failed.now ≡ name) × HasRisen (before name) (after name)

-- the names as bytes
abbrev pub names_view : Names → FileNames
names_view n = record { rtl = n.rtl.now; upf = n.upf.now; lib = n.lib.now; net = n.net.now; map = n.map.now }

-- the reading stopped at one of these names, whose count rose, or for want of memory
abbrev pub IsStopped : (List ℕ → ℕ) → (List ℕ → ℕ) → List (List ℕ) → ReadStop → Type 0
IsStopped before after names Memory = Unit {0}
IsStopped before after names (Failed failed) = IsOneOf names failed.now × HasRisen (before failed.now) (after failed.now)
