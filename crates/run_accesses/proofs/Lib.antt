mod KeptAccesses
mod TsoKeptAccesses
