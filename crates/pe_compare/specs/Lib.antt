pub mod MapGrammar
pub mod MapFile
pub mod MapTerminals
pub mod MapMeaning
pub mod MapReading
