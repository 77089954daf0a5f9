-- What is explained of a document.
mod FirmFacts
