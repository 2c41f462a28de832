pub mod Laws
mod Bytes
mod LittleEndian
mod Words
mod RuledOut
