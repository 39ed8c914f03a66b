pub mod KnownWords
