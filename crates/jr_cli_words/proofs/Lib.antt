pub mod CommandLineFacts
